use Rattle.std.proofs.Common.{◌≡◌, ℕ, ◌+◌, List, [], ◌∷◌, ◌++◌, length, Option, Result, Err, Some, inr, false, true, sym, ap, subst, ◌∙◌, arith, append_assoc, refl}
use Rattle.std.specs.Prelude.{IsSome, IsErrOf}
use Rattle.spool_types.specs.Sent.{sent_by, with_placed}
use Rattle.spool_types.specs.State.{State}
use Rattle.spool_types.specs.declared.event.Event.{Event}
use Rattle.job_table.specs.Contents.{Contents, AddsPlaces, places_of}
use Rattle.job_table.specs.Step.{after, answered}
use Rattle.job_table.specs.declared.table.prepare.PrepareFault.{PrepareFault}
use Rattle.gate_journal.specs.Appends.{kept_room}
use Rattle.gate_journal.specs.Staged.{gate_of}
use Rattle.gate_journal.specs.declared.journal.JournalFault.{JournalFault}
use Rattle.spool_disk.specs.Disk.{DiskView, IsLawful, LeavesOnly}
use Rattle.spool_disk.proofs.Moments.{as_long}
use Rattle.spool_areas.specs.AreaStages.{AreaStages}
use Rattle.spool_areas.specs.Current.{Current}
use Rattle.spool_core.specs.Folding.{StayOver}
use Rattle.spool_core.specs.Image.{HasTable, HasDocuments, HasWhole}
use Rattle.spool_core.specs.Batch.{IsTableOf}
use Rattle.spool_core.specs.SpoolFields.{IsStagedAt}
use Rattle.spool_core.specs.OpenSpools.{record_len}
use Rattle.spool_core.proofs.ImageLaws.{IsPayloadOf, framed_payload, told_before, is_told, over_after, ok_fits, not_refused}
use Rattle.spool_core.proofs.BatchLaws.{same_areas, dead_areas, before_is, stage_leaves, stage_leaves_whole, unmoved_before, unmoved_whole_before, staged_next, staged_on, told_shown}
use Rattle.spool_core.proofs.DocumentLaws.{documents_sent}
use Rattle.spool_areas.specs.Header.{half, header_at, version_of}
use Rattle.spool_areas.specs.Payloads.{HasPayloads}
use Rattle.spool_areas.proofs.StagedAreas.{shown_payloads}
use Rattle.gate_journal.specs.Frame.{payload_of}
use Rattle.spool_core.proofs.spool.batching.stage_record.Goals as goal

-- The images during the stage.
module _ {D : Type 0} (v : DiskView D) (lawful : IsLawful v) (old new : Current D) (t : Contents) (room : ℕ) (frame filled : List ℕ) (result : Result ℕ JournalFault)
    (stands : IsStagedAt v old t) (staged : AreaStages v room old new frame filled result) (alive : old.dead ≡ false) where
  run : (before : State) → IsTableOf v old.disk before → LeavesOnly v old.disk new.disk (HasTable before)
  run before is =
      let keeps = stands.table alive (is_told (v.bytes old.disk) is.0 is.1) in
      subst (λ (s : State). LeavesOnly v old.disk new.disk (HasTable s)) (before_is v lawful old keeps.0 t stands.area.end_is stands.roomy keeps.1 before is)
      (stage_leaves v lawful old keeps.0 t stands.area.end_is stands.roomy keeps.1 new.disk (as_long v old.disk new.disk _ _ lawful staged.stages.changes)
      (staged.any_moment keeps.1.payloads keeps.1.staged keeps.1.kept))

  whole_run : (r : List ℕ) (before : State) (documents : ℕ → List ℕ) → v.bytes old.disk ≡ Some r → HasWhole before documents r → LeavesOnly v old.disk new.disk (HasWhole before documents)
  whole_run r before documents tells has =
      let keeps = stands.table alive (is_told (v.bytes old.disk) r tells) in
      let same = before_is v lawful old keeps.0 t stands.area.end_is stands.roomy keeps.1 before (r, tells, has.0) in
      subst (λ (s : State). LeavesOnly v old.disk new.disk (HasWhole s documents)) same
      (stage_leaves_whole v lawful old keeps.0 t stands.area.end_is stands.roomy keeps.1 new.disk (as_long v old.disk new.disk _ _ lawful staged.stages.changes)
      (staged.any_moment keeps.1.payloads keeps.1.staged keeps.1.kept) r documents tells (subst (λ (s : State). HasDocuments s documents r) (sym same) has.1))

-- The images if no device is called.
still : {D : Type 0} (v : DiskView D) (lawful : IsLawful v) (old : Current D) (t : Contents) → IsStagedAt v old t → old.dead ≡ false → (before : State) → IsTableOf v old.disk before → LeavesOnly v old.disk old.disk (HasTable before)
still v lawful old t stands alive before is =
    let keeps = stands.table alive (is_told (v.bytes old.disk) is.0 is.1) in
    subst (λ (s : State). LeavesOnly v old.disk old.disk (HasTable s)) (before_is v lawful old keeps.0 t stands.area.end_is stands.roomy keeps.1 before is)
    (unmoved_before v lawful old keeps.0 t stands.area.end_is stands.roomy keeps.1)

still_whole : {D : Type 0} (v : DiskView D) (lawful : IsLawful v) (old : Current D) (t : Contents) → IsStagedAt v old t → old.dead ≡ false → (r : List ℕ) (before : State) (documents : ℕ → List ℕ) → v.bytes old.disk ≡ Some r → HasWhole before documents r
    → LeavesOnly v old.disk old.disk (HasWhole before documents)
still_whole v lawful old t stands alive r before documents tells has =
    let keeps = stands.table alive (is_told (v.bytes old.disk) r tells) in
    let same = before_is v lawful old keeps.0 t stands.area.end_is stands.roomy keeps.1 before (r, tells, has.0) in
    subst (λ (s : State). LeavesOnly v old.disk old.disk (HasWhole s documents)) same
    (unmoved_whole_before v lawful old keeps.0 t stands.area.end_is stands.roomy keeps.1 r documents tells (subst (λ (s : State). HasDocuments s documents r) (sym same) has.1))

-- The places of the prepared table are those of the table.
added_to : (at : ℕ) (sends : Option (ℕ × List ℕ)) (c m d : Contents) → m.places ≡ c.places → AddsPlaces at sends m d → AddsPlaces at sends c d
added_to at sends c m d same adds j lives = adds j lives ∙ ap (λ ps. with_placed (places_of ps j) at j sends) same

pub returns-in-Err-Refused-clause-answer : goal.returns-in-Err-Refused-clause-answer
returns-in-Err-Refused-clause-answer g c =
    let refused = (c.in-Err-Refused.ensures.refused c.in-Err-Refused.refusal).0 (ap (λ (f : PrepareFault). Err f) c.in-Err-Refused.field-0-is) in
    (sym c.if-is_dead.ensures, ap (answered c.args.table.now.state c.args.event.now) refused, refl)

pub returns-in-Err-Memory-clause-answer : goal.returns-in-Err-Memory-clause-answer
returns-in-Err-Memory-clause-answer g c =
    let accepted = not_refused _ c.in-Err-Memory.field-0 c.in-Err-Memory.field-0-is (λ r. (c.in-Err-Memory.ensures.refused r).1) in
    (sym c.if-is_dead.ensures, accepted, refl)

pub returns-in-Err-Refused-clause-any_moment : goal.returns-in-Err-Refused-clause-any_moment
returns-in-Err-Refused-clause-any_moment g c = still g.D.Disk.device g.met.D.Disk.lawful c.args.areas.now c.args.table.now c.requires

pub returns-in-Err-Memory-clause-any_moment : goal.returns-in-Err-Memory-clause-any_moment
returns-in-Err-Memory-clause-any_moment g c = still g.D.Disk.device g.met.D.Disk.lawful c.args.areas.now c.args.table.now c.requires

pub returns-in-Err-clause-any_moment : goal.returns-in-Err-clause-any_moment
returns-in-Err-clause-any_moment g c = still g.D.Disk.device g.met.D.Disk.lawful c.args.areas.now c.args.table.now c.requires

pub returns-in-Err-Refused-clause-kept : goal.returns-in-Err-Refused-clause-kept
returns-in-Err-Refused-clause-kept g c =
    let v = g.D.Disk.device in
    let a = c.args.areas.now in
    staged_on v a a c.args.table.now c.prepare.new.self (same_areas v a) c.prepare.ensures.same c.prepare.ensures.places c.requires

pub returns-in-Err-Memory-clause-kept : goal.returns-in-Err-Memory-clause-kept
returns-in-Err-Memory-clause-kept g c =
    let v = g.D.Disk.device in
    let a = c.args.areas.now in
    staged_on v a a c.args.table.now c.prepare.new.self (same_areas v a) c.prepare.ensures.same c.prepare.ensures.places c.requires

pub returns-in-Err-clause-kept : goal.returns-in-Err-clause-kept
returns-in-Err-clause-kept g c =
    let v = g.D.Disk.device in
    let a = c.args.areas.now in
    staged_on v a a c.args.table.now c.prepare.new.self (same_areas v a) c.prepare.ensures.same c.prepare.ensures.places c.requires

pub returns-in-Ok-stage-clause-any_moment : goal.returns-in-Ok-stage-clause-any_moment
returns-in-Ok-stage-clause-any_moment g c alive = run g.D.Disk.device g.met.D.Disk.lawful c.args.areas.now c.stage.new.self c.args.table.now kept_room _ _ c.stage.result c.requires c.stage.ensures alive

pub returns-in-Ok-stage-clause-added : goal.returns-in-Ok-stage-clause-added
returns-in-Ok-stage-clause-added g c = λ d next adds.
    let v = g.D.Disk.device in
    let a = c.args.areas.now in
    let t = c.args.table.now in
    let e = c.args.event.now in
    let at = c.in-Ok-stage.place in
    let payload = framed_payload c.prepare.new.self t.state e c.fill_frame.new.frame.items c.deref_mut.result.now c.in-Ok.ensures.ok c.prepare.ensures.same c.in-Ok-fill_frame.ensures c.deref_mut.ensures.value in
    let len : length c.deref_mut.result.now ≡ record_len e = ap length c.deref_mut.ensures.value ∙ c.in-Ok-fill_frame.ensures.len in
    let fits = ok_fits a c.stage.result _ _ c.in-Ok-stage.is (sym c.if-is_dead.ensures) c.stage.ensures.stages.full.1 in
    let held : gate_of c.stage.new.self.held c.stage.new.self.gate ≡ gate_of a.held a.gate = ap (λ (h : Option ℕ). gate_of h c.stage.new.self.gate) c.in-Ok-stage.ensures.stages.held in
    staged_next v a c.stage.new.self t d e _ at payload next c.in-Ok-stage.ensures.stages.answer
    (added_to at (sent_by e) t c.prepare.new.self d c.prepare.ensures.places adds)
    (subst (StayOver t.state) (sym next) (over_after t.state e c.jobs-jobs.ensures.legal payload.accepted c.ended_jobs_stay.ensures.accepted))
    c.requires (sym c.if-is_dead.ensures) (told_before _ _ _ c.stage.ensures.stages.changes.bytes) c.stage.ensures.same.0 c.stage.ensures.same.1 c.stage.ensures.same.3 held c.stage.ensures.stages.changes.size
    (omega (arith, c.in-Ok-stage.ensures.stages.place, len, ap length payload.payload_is))
    (omega (arith, fits, c.in-Ok-stage.ensures.stages.place, c.stage.ensures.same.1))
    (λ busy. omega (arith, fits, c.in-Ok-stage.ensures.stages.place, c.stage.ensures.same.1))
    c.in-Ok-stage.ensures.staged

pub returns-in-Err-Full-clause-any_moment : goal.returns-in-Err-Full-clause-any_moment
returns-in-Err-Full-clause-any_moment g c alive = run g.D.Disk.device g.met.D.Disk.lawful c.args.areas.now c.stage.new.self c.args.table.now kept_room _ _ c.stage.result c.requires c.stage.ensures alive

pub returns-in-Err-Full-clause-kept : goal.returns-in-Err-Full-clause-kept
returns-in-Err-Full-clause-kept g c =
    let v = g.D.Disk.device in
    let a = c.args.areas.now in
    let t = c.prepare.new.self in
    subst (λ (b : Current g.row.D.Denot). IsStagedAt v b t) (sym (c.stage.ensures.untouched (inr (c.in-Err-Full.is ∙ ap (λ (f : JournalFault). Err f) c.in-Err-Full.field-0-is))))
    (staged_on v a a c.args.table.now t (same_areas v a) c.prepare.ensures.same c.prepare.ensures.places c.requires)

pub returns-in-Err-Disk-clause-any_moment : goal.returns-in-Err-Disk-clause-any_moment
returns-in-Err-Disk-clause-any_moment g c alive = run g.D.Disk.device g.met.D.Disk.lawful c.args.areas.now c.stage.new.self c.args.table.now kept_room _ _ c.stage.result c.requires c.stage.ensures alive

pub returns-in-Err-Disk-clause-kept : goal.returns-in-Err-Disk-clause-kept
returns-in-Err-Disk-clause-kept g c =
    let v = g.D.Disk.device in
    let a = c.args.areas.now in
    let b = c.stage.new.self in
    let is = c.in-Err-Disk.is ∙ ap (λ (f : JournalFault). Err f) c.in-Err-Disk.field-0-is in
    staged_on v a b c.args.table.now c.prepare.new.self
    (dead_areas v a b c.stage.ensures.same.0 c.stage.ensures.same.1 c.stage.ensures.same.3 c.in-Err-Disk.ensures.stages.stays.0 c.stage.ensures.stages.changes.size (c.stage.ensures.stages.dies.1 (inr is)))
    c.prepare.ensures.same c.prepare.ensures.places c.requires

pub returns-in-Err-Refused-clause-documents : goal.returns-in-Err-Refused-clause-documents
returns-in-Err-Refused-clause-documents g c = still_whole g.D.Disk.device g.met.D.Disk.lawful c.args.areas.now c.args.table.now c.requires

pub returns-in-Err-Memory-clause-documents : goal.returns-in-Err-Memory-clause-documents
returns-in-Err-Memory-clause-documents g c = still_whole g.D.Disk.device g.met.D.Disk.lawful c.args.areas.now c.args.table.now c.requires

pub returns-in-Err-clause-documents : goal.returns-in-Err-clause-documents
returns-in-Err-clause-documents g c = still_whole g.D.Disk.device g.met.D.Disk.lawful c.args.areas.now c.args.table.now c.requires

pub returns-in-Ok-stage-clause-documents : goal.returns-in-Ok-stage-clause-documents
returns-in-Ok-stage-clause-documents g c alive = whole_run g.D.Disk.device g.met.D.Disk.lawful c.args.areas.now c.stage.new.self c.args.table.now kept_room _ _ c.stage.result c.requires c.stage.ensures alive

pub returns-in-Err-Full-clause-documents : goal.returns-in-Err-Full-clause-documents
returns-in-Err-Full-clause-documents g c alive = whole_run g.D.Disk.device g.met.D.Disk.lawful c.args.areas.now c.stage.new.self c.args.table.now kept_room _ _ c.stage.result c.requires c.stage.ensures alive

pub returns-in-Err-Disk-clause-documents : goal.returns-in-Err-Disk-clause-documents
returns-in-Err-Disk-clause-documents g c alive = whole_run g.D.Disk.device g.met.D.Disk.lawful c.args.areas.now c.stage.new.self c.args.table.now kept_room _ _ c.stage.result c.requires c.stage.ensures alive

-- The part that the event sends follows the documents shown.
pub returns-in-Ok-stage-clause-sent : goal.returns-in-Ok-stage-clause-sent
returns-in-Ok-stage-clause-sent g c = λ r s documents first last has.
    let v = g.D.Disk.device in
    let a = c.args.areas.now in
    let b = c.stage.new.self in
    let t = c.args.table.now in
    let e = c.args.event.now in
    let alive = sym c.if-is_dead.ensures in
    let payload = framed_payload c.prepare.new.self t.state e c.fill_frame.new.frame.items c.deref_mut.result.now c.in-Ok.ensures.ok c.prepare.ensures.same c.in-Ok-fill_frame.ensures c.deref_mut.ensures.value in
    let told = told_shown a.held (v.bytes a.disk) r first in
    let told_new = told_shown b.held (v.bytes b.disk) s last in
    let keeps = c.requires.table alive (is_told (v.bytes a.disk) told.0 told.1) in
    let more = c.in-Ok-stage.ensures.staged keeps.1.payloads keeps.1.staged keeps.1.kept in
    let from = shown_payloads v g.met.D.Disk.lawful a c.requires.area.end_is keeps.1.payloads keeps.1.staged keeps.1.kept told.0 r told.1 first in
    let ends : b.end ≡ b.base + half (v.size b.disk) =
    omega (arith, c.requires.area.end_is, c.stage.ensures.same.0, c.stage.ensures.same.1, ap half c.stage.ensures.stages.changes.size) in
    let there = shown_payloads v g.met.D.Disk.lawful b ends keeps.1.payloads (keeps.1.staged ++ payload_of c.deref_mut.result.now ∷ []) more told_new.0 s told_new.1 last in
    let joined : keeps.1.payloads ++ (keeps.1.staged ++ payload_of c.deref_mut.result.now ∷ []) ≡ keeps.1.payloads ++ keeps.1.staged ++ payload_of c.deref_mut.result.now ∷ [] =
    sym (append_assoc keeps.1.payloads keeps.1.staged (payload_of c.deref_mut.result.now ∷ [])) in
    documents_sent a.base (keeps.1.payloads ++ keeps.1.staged) (payload_of c.deref_mut.result.now) r s t.state (after t.state e) e documents
    (over_after t.state e c.jobs-jobs.ensures.legal payload.accepted c.ended_jobs_stay.ensures.accepted) payload.accepted payload.spellable payload.payload_is from.area
    (subst (λ (x : ℕ). HasPayloads x (keeps.1.payloads ++ keeps.1.staged ++ payload_of c.deref_mut.result.now ∷ []) s) c.stage.ensures.same.0
    (subst (λ (ps : List (List ℕ)). HasPayloads b.base ps s) joined there.area))
    (ap (λ (x : ℕ). version_of (header_at x s)) (sym c.stage.ensures.same.0) ∙ there.version_is ∙ c.stage.ensures.same.3 ∙ sym from.version_is) has
