use Rattle.std.proofs.Common.{◌≡◌, ℕ, List, length, Bool, true, false, Result, Ok, Err, inr, ⊎_elim, refl, sym, ap, subst, ◌∙◌, arith}
use Rattle.std.specs.Prelude.{IsSome}
use Rattle.std.proofs.lemmas.Bool.{both_ways}
use Rattle.spool_types.specs.declared.event.Event.TheVariants.{Reopen}
use Rattle.spool_disk.specs.Disk.{DiskView, IsLawful, Blames, LeavesOnly}
use Rattle.spool_disk.proofs.Moments.{started, as_long, weaker_run}
use Rattle.job_table.specs.Attempts.{HasNoProcessing, reopened}
use Rattle.job_table.specs.Contents.{Contents, places_of}
use Rattle.gate_journal.specs.Frame.{payload_of}
use Rattle.gate_journal.specs.declared.journal.JournalFault.{JournalFault}
use Rattle.gate_journal.specs.declared.journal.JournalFault.TheVariants as faults
use Rattle.spool_areas.specs.AreaAppends.{AreaAppends}
use Rattle.spool_areas.specs.Current.{Current}
use Rattle.spool_core.specs.Folding.{StayOver}
use Rattle.spool_core.specs.Image.{HasBeforeOrAfterEvent}
use Rattle.spool_core.specs.SpoolFields.{IsOpenSpoolAt}
use Rattle.spool_core.specs.OpenSpools.{record_len}
use Rattle.spool_core.proofs.ImageLaws.{IsPayloadOf, KeepsDocuments, framed_payload, told_before, told_after, is_told, over_after, shows_documents, unmoved, leaves_tables, leaves_documents, stands_next, where_told, GoOn, go_on, stands_on}
use Rattle.spool_core.proofs.spool.journalling.journal_reopening.Goals as goal

-- The images that the append leaves meanwhile.
module _ {D : Type 0} (v : DiskView D) (lawful : IsLawful v) (old new : Current D) (t : Contents) (frame filled : List ℕ) (result : Result ℕ JournalFault)
    (stands : IsOpenSpoolAt v old t) (alive : old.dead ≡ false) (is : IsPayloadOf t.state Reopen (payload_of frame)) (added : AreaAppends v 1 old new frame filled result) where
  long : LeavesOnly v old.disk new.disk (λ c. length c ≡ v.size old.disk)
  long = as_long v old.disk new.disk _ _ lawful added.appends.changes

  tables : HasNoProcessing (reopened t.state) → LeavesOnly v old.disk new.disk (λ c. IsSome (v.bytes old.disk) → HasBeforeOrAfterEvent t.state Reopen c)
  tables idle =
      where_told v old.disk new.disk (HasBeforeOrAfterEvent t.state Reopen) (λ c. length c ≡ v.size old.disk) (v.bytes old.disk)
      (λ told. leaves_tables v lawful old t stands.area.end_is stands.roomy (stands.table alive told) new.disk Reopen (payload_of frame) is (λ busy. absurd (busy idle)) long added.any_moment) long

  documents : LeavesOnly v old.disk new.disk (KeepsDocuments v old.disk t.state)
  documents =
      weaker_run v old.disk new.disk (KeepsDocuments v old.disk t.state) (λ c. IsSome (v.bytes old.disk) → KeepsDocuments v old.disk t.state c)
      (where_told v old.disk new.disk (KeepsDocuments v old.disk t.state) (λ c. length c ≡ v.size old.disk) (v.bytes old.disk)
      (λ told. leaves_documents v lawful old t stands.area.end_is stands.roomy (stands.table alive told) new.disk (payload_of frame) is added.any_moment) long)
      (λ c has r documents tells. has (is_told (v.bytes old.disk) r tells) r documents tells)

  -- If the record was added, the device had not failed.
  lives : (at : ℕ) → result ≡ Ok at → new.dead ≡ false
  lives at ok = by_dead new.dead refl
    where
      by_dead : (b : Bool) → new.dead ≡ b → new.dead ≡ false
      by_dead false is = is
      by_dead true is = absurd (⊎_elim (λ was. both_ways old.dead alive was) (λ fault. absurd (cc)) (added.appends.dies.0 is))

  blames_none : (at : ℕ) → result ≡ Ok at → (Blamed : Type 0) → ¬ Blamed → Blames (v.failures old.disk) (v.failures new.disk) Blamed
  blames_none at ok Blamed none =
      let b = added.appends.blames in
      record { later = b.later; failed = λ blamed. absurd (none blamed); counted = λ no. b.counted (λ fault. absurd (cc)) }

  module _ (failed : result ≡ Err faults.Disk) where
    blames_it : (Blamed : Type 0) → Blamed → Blames (v.failures old.disk) (v.failures new.disk) Blamed
    blames_it Blamed it =
        let b = added.appends.blames in
        record { later = b.later; failed = λ blamed. b.failed failed; counted = λ no. absurd (no it) }

    dead : new.dead ≡ false → ⊥
    dead lives = both_ways new.dead lives (added.appends.dies.1 (inr failed))

    goes_on : new.gate ≡ old.gate → GoOn v old new
    goes_on gate = record {
      base = added.same.0;
      end = added.same.1;
      version = added.same.3;
      gate = gate;
      size = added.appends.changes.size;
      told = told_before _ _ _ added.appends.changes.bytes;
      alive = λ lives. absurd (dead lives);
      kept = λ lives. absurd (dead lives);
    }

-- Without an append the table and its documents are left.
module _ {D : Type 0} (v : DiskView D) (lawful : IsLawful v) (areas : Current D) (t : Contents) (stands : IsOpenSpoolAt v areas t) (alive : areas.dead ≡ false) where
  still : LeavesOnly v areas.disk areas.disk (λ c. IsSome (v.bytes areas.disk) → HasBeforeOrAfterEvent t.state Reopen c)
  still =
      where_told v areas.disk areas.disk (HasBeforeOrAfterEvent t.state Reopen) (λ c. length c ≡ v.size areas.disk) (v.bytes areas.disk)
      (λ told. unmoved v lawful areas t stands.area.end_is stands.roomy (stands.table alive told) Reopen)
      (started v areas.disk (λ c. length c ≡ v.size areas.disk) (λ c left. lawful.image_size areas.disk c (lawful.only_now areas.disk c left)))

  still_documents : LeavesOnly v areas.disk areas.disk (KeepsDocuments v areas.disk t.state)
  still_documents =
      started v areas.disk (KeepsDocuments v areas.disk t.state)
      (λ c left r documents tells has.
      shows_documents v lawful areas t stands.area.end_is stands.roomy (stands.table alive (is_told (v.bytes areas.disk) r tells)) r documents tells has c
      (lawful.only_now areas.disk c left))

pub returns-in-Err-filled-clause-any_moment : goal.returns-in-Err-filled-clause-any_moment
returns-in-Err-filled-clause-any_moment g c = still g.D.Disk.device g.met.D.Disk.lawful c.args.areas.now c.args.table.now c.requires.open_spool c.requires.alive

pub returns-in-Err-filled-clause-documents : goal.returns-in-Err-filled-clause-documents
returns-in-Err-filled-clause-documents g c = still_documents g.D.Disk.device g.met.D.Disk.lawful c.args.areas.now c.args.table.now c.requires.open_spool c.requires.alive

pub returns-in-Err-filled-clause-kept : goal.returns-in-Err-filled-clause-kept
returns-in-Err-filled-clause-kept g c =
    let v = g.D.Disk.device in
    let a = c.args.areas.now in
    stands_on v a a c.args.table.now c.prepare-prepared.new.self (go_on v a) c.prepare-prepared.ensures.same c.prepare-prepared.ensures.places c.requires.open_spool

pub returns-in-Ok-append_kept-clause-any_moment : goal.returns-in-Ok-append_kept-clause-any_moment
returns-in-Ok-append_kept-clause-any_moment g c =
    let s = c.args.table.now.state in
    let payload = framed_payload c.prepare-prepared.new.self s Reopen c.fill_frame-filled.new.frame.items c.deref_mut.result.now c.in-Ok.ensures.ok c.prepare-prepared.ensures.same c.in-Ok-filled.ensures c.deref_mut.ensures.value in
    tables g.D.Disk.device g.met.D.Disk.lawful c.args.areas.now c.append_kept.new.self c.args.table.now _ _ c.append_kept.result c.requires.open_spool c.requires.alive payload c.append_kept.ensures
    (c.reopening.ensures.none s c.requires.legal)

pub returns-in-Ok-append_kept-clause-documents : goal.returns-in-Ok-append_kept-clause-documents
returns-in-Ok-append_kept-clause-documents g c =
    let payload = framed_payload c.prepare-prepared.new.self c.args.table.now.state Reopen c.fill_frame-filled.new.frame.items c.deref_mut.result.now c.in-Ok.ensures.ok c.prepare-prepared.ensures.same c.in-Ok-filled.ensures c.deref_mut.ensures.value in
    documents g.D.Disk.device g.met.D.Disk.lawful c.args.areas.now c.append_kept.new.self c.args.table.now _ _ c.append_kept.result c.requires.open_spool c.requires.alive payload c.append_kept.ensures

pub returns-in-Ok-append_kept-clause-added : goal.returns-in-Ok-append_kept-clause-added
returns-in-Ok-append_kept-clause-added g c = λ d next keeps.
    let v = g.D.Disk.device in
    let a = c.args.areas.now in
    let t = c.args.table.now in
    let stands = c.requires.open_spool in
    let payload = framed_payload c.prepare-prepared.new.self t.state Reopen c.fill_frame-filled.new.frame.items c.deref_mut.result.now c.in-Ok.ensures.ok c.prepare-prepared.ensures.same c.in-Ok-filled.ensures c.deref_mut.ensures.value in
    let len : length c.deref_mut.result.now ≡ record_len Reopen = ap length c.deref_mut.ensures.value ∙ c.in-Ok-filled.ensures.len in
    let idle : HasNoProcessing (reopened t.state) = c.reopening.ensures.none t.state c.requires.legal in
    stands_next v a c.append_kept.new.self t d Reopen _ _ payload next c.in-Ok-append_kept.ensures.appends.answer
    (λ j lives. keeps j lives ∙ ap (λ ps. places_of ps j) c.prepare-prepared.ensures.places)
    (subst (StayOver t.state) (sym next) (over_after t.state Reopen c.requires.legal payload.accepted c.ended_jobs_stay.ensures.accepted))
    stands c.requires.alive (told_before _ _ _ c.append_kept.ensures.appends.changes.bytes) c.append_kept.ensures.same.0 c.append_kept.ensures.same.1 c.append_kept.ensures.same.3 c.append_kept.ensures.appends.changes.size
    (omega (arith, c.in-Ok-append_kept.ensures.appends.place, len, ap length payload.payload_is))
    (omega (arith, stands.roomy c.requires.busy, len, c.in-Ok-append_kept.ensures.appends.place, c.append_kept.ensures.same.1))
    (λ busy. absurd (busy (subst HasNoProcessing (sym next) idle)))
    c.in-Ok-append_kept.ensures.added

pub returns-in-Err-Disk-clause-told : goal.returns-in-Err-Disk-clause-told
returns-in-Err-Disk-clause-told g c = (told_before _ _ _ c.append_kept.ensures.appends.changes.bytes, told_after _ _ _ c.append_kept.ensures.appends.changes.bytes)

pub returns-in-Err-Disk-clause-any_moment : goal.returns-in-Err-Disk-clause-any_moment
returns-in-Err-Disk-clause-any_moment g c =
    let s = c.args.table.now.state in
    let payload = framed_payload c.prepare-prepared.new.self s Reopen c.fill_frame-filled.new.frame.items c.deref_mut.result.now c.in-Ok.ensures.ok c.prepare-prepared.ensures.same c.in-Ok-filled.ensures c.deref_mut.ensures.value in
    tables g.D.Disk.device g.met.D.Disk.lawful c.args.areas.now c.append_kept.new.self c.args.table.now _ _ c.append_kept.result c.requires.open_spool c.requires.alive payload c.append_kept.ensures
    (c.reopening.ensures.none s c.requires.legal)

pub returns-in-Err-Disk-clause-documents : goal.returns-in-Err-Disk-clause-documents
returns-in-Err-Disk-clause-documents g c =
    let payload = framed_payload c.prepare-prepared.new.self c.args.table.now.state Reopen c.fill_frame-filled.new.frame.items c.deref_mut.result.now c.in-Ok.ensures.ok c.prepare-prepared.ensures.same c.in-Ok-filled.ensures c.deref_mut.ensures.value in
    documents g.D.Disk.device g.met.D.Disk.lawful c.args.areas.now c.append_kept.new.self c.args.table.now _ _ c.append_kept.result c.requires.open_spool c.requires.alive payload c.append_kept.ensures

pub returns-in-Ok-append_kept-clause-alive : goal.returns-in-Ok-append_kept-clause-alive
returns-in-Ok-append_kept-clause-alive g c =
    let payload = framed_payload c.prepare-prepared.new.self c.args.table.now.state Reopen c.fill_frame-filled.new.frame.items c.deref_mut.result.now c.in-Ok.ensures.ok c.prepare-prepared.ensures.same c.in-Ok-filled.ensures c.deref_mut.ensures.value in
    lives g.D.Disk.device g.met.D.Disk.lawful c.args.areas.now c.append_kept.new.self c.args.table.now _ _ c.append_kept.result c.requires.open_spool c.requires.alive payload c.append_kept.ensures _ c.in-Ok-append_kept.is

pub returns-in-Ok-append_kept-clause-blames : goal.returns-in-Ok-append_kept-clause-blames
returns-in-Ok-append_kept-clause-blames g c =
    let payload = framed_payload c.prepare-prepared.new.self c.args.table.now.state Reopen c.fill_frame-filled.new.frame.items c.deref_mut.result.now c.in-Ok.ensures.ok c.prepare-prepared.ensures.same c.in-Ok-filled.ensures c.deref_mut.ensures.value in
    blames_none g.D.Disk.device g.met.D.Disk.lawful c.args.areas.now c.append_kept.new.self c.args.table.now _ _ c.append_kept.result c.requires.open_spool c.requires.alive payload c.append_kept.ensures _ c.in-Ok-append_kept.is _ (λ fault. absurd (cc))

pub returns-in-Ok-append_kept-clause-told : goal.returns-in-Ok-append_kept-clause-told
returns-in-Ok-append_kept-clause-told g c = (told_before _ _ _ c.append_kept.ensures.appends.changes.bytes, told_after _ _ _ c.append_kept.ensures.appends.changes.bytes)

pub returns-in-Err-Disk-clause-blames : goal.returns-in-Err-Disk-clause-blames
returns-in-Err-Disk-clause-blames g c =
    let payload = framed_payload c.prepare-prepared.new.self c.args.table.now.state Reopen c.fill_frame-filled.new.frame.items c.deref_mut.result.now c.in-Ok.ensures.ok c.prepare-prepared.ensures.same c.in-Ok-filled.ensures c.deref_mut.ensures.value in
    blames_it g.D.Disk.device g.met.D.Disk.lawful c.args.areas.now c.append_kept.new.self c.args.table.now _ _ c.append_kept.result c.requires.open_spool c.requires.alive payload c.append_kept.ensures (c.in-Err-Disk.is ∙ ap (λ (f : JournalFault). Err f) c.in-Err-Disk.field-0-is) _ refl

pub returns-in-Err-Disk-clause-kept : goal.returns-in-Err-Disk-clause-kept
returns-in-Err-Disk-clause-kept g c =
    let payload = framed_payload c.prepare-prepared.new.self c.args.table.now.state Reopen c.fill_frame-filled.new.frame.items c.deref_mut.result.now c.in-Ok.ensures.ok c.prepare-prepared.ensures.same c.in-Ok-filled.ensures c.deref_mut.ensures.value in
    stands_on g.D.Disk.device c.args.areas.now c.append_kept.new.self c.args.table.now c.prepare-prepared.new.self
    (goes_on g.D.Disk.device g.met.D.Disk.lawful c.args.areas.now c.append_kept.new.self c.args.table.now _ _ c.append_kept.result c.requires.open_spool c.requires.alive payload c.append_kept.ensures (c.in-Err-Disk.is ∙ ap (λ (f : JournalFault). Err f) c.in-Err-Disk.field-0-is) c.in-Err-Disk.ensures.appends.held)
    c.prepare-prepared.ensures.same c.prepare-prepared.ensures.places c.requires.open_spool

pub returns-in-Ok-append_kept-clause-settled : goal.returns-in-Ok-append_kept-clause-settled
returns-in-Ok-append_kept-clause-settled g c alive = c.append_kept.ensures.appends.none ∙ c.requires.settled c.requires.alive

pub returns-in-Err-Disk-clause-settled : goal.returns-in-Err-Disk-clause-settled
returns-in-Err-Disk-clause-settled g c alive = c.append_kept.ensures.appends.none ∙ c.requires.settled c.requires.alive
