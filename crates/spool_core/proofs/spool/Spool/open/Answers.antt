use Rattle.std.specs.Prelude.{IsSome}
use Rattle.std.proofs.Common.{◌≡◌, ◌-◌, ℕ, List, Some, Err, inl, inr, refl, sym, subst, ap, ◌∙◌}
use Rattle.job_table.specs.Attempts.{HasNoProcessing, reopened}
use Rattle.job_table.specs.Legal.{IsLegal}
use Rattle.spool_types.specs.State.{State}
use Rattle.spool_types.specs.declared.event.Event.TheVariants.{Reopen}
use Rattle.spool_disk.specs.Disk.{LeavesOnly}
use Rattle.spool_disk.proofs.Moments.{both_runs, at_return}
use Rattle.spool_areas.specs.declared.fault.OpenFault.{OpenFault}
use Rattle.spool_core.specs.Image.{HasTable, HasDocuments, IsMidway}
use Rattle.spool_core.specs.OpenSpools.{OpenSpool, record_len}
use Rattle.spool_core.proofs.DocumentLaws.{documents_stay}
use Rattle.spool_core.proofs.ImageLaws.{over_after}
use Rattle.spool_core.proofs.ReadingLaws.{one_table, one_room}
use Rattle.spool_core.proofs.Restarts.{wants_memory, blames_disk, still, since_sync}
use Rattle.spool_core.proofs.spool.Spool.open.Goals as goal

pub returns-then-is_idle-clause-opened : goal.returns-then-is_idle-clause-opened
returns-then-is_idle-clause-opened g c = λ r tells.
    let idle : HasNoProcessing c.in-Ok.spool.state = subst (λ (v : OpenSpool g.row.D.Denot). HasNoProcessing v.state) c.spool.view_is (c.if-is_idle.ensures.idle refl) in
    record { table = c.in-Ok.spool.state; found = c.in-Ok.ensures.opened r tells; reopened_is = sym (c.reopening.ensures.idle c.in-Ok.spool.state idle) }

pub returns-then-is_idle-clause-synced : goal.returns-then-is_idle-clause-synced
returns-then-is_idle-clause-synced g c =
    let disk = g.D.Disk in
    let w = c.in-Ok.ensures.synced in
    (w.0, w.1, still disk.device c.args.disk c.in-Ok.spool.disk w.0 c.in-Ok.spool.state c.in-Ok.ensures.opened c.in-Ok.ensures.same.bytes w.2)

-- Nothing was written.
pub returns-then-is_idle-clause-documents : goal.returns-then-is_idle-clause-documents
returns-then-is_idle-clause-documents g c = λ r t documents tells found has image left.
    let disk = g.D.Disk in
    let w = c.in-Ok.ensures.synced in
    let now = c.in-Ok.spool in
    let same = at_return disk.device g.met.D.Disk.lawful w.0 now.disk (λ b. (r : List ℕ) → disk.device.bytes c.args.disk ≡ Some r → (b ≡ r) × HasTable now.state b) w.2 image left r tells in
    subst (λ (s : State). HasDocuments s documents image) (one_table image t now.state (subst (HasTable t) (sym same.0) found) same.1)
    (subst (HasDocuments t documents) (sym same.0) has)

pub returns-then-is_idle-clause-left : goal.returns-then-is_idle-clause-left
returns-then-is_idle-clause-left g c = λ r t room tells has roomy.
    let idle : HasNoProcessing c.in-Ok.spool.state = subst (λ (v : OpenSpool g.row.D.Denot). HasNoProcessing v.state) c.spool.view_is (c.if-is_idle.ensures.idle refl) in
    let same : t ≡ c.in-Ok.spool.state = one_table r t c.in-Ok.spool.state has (c.in-Ok.ensures.opened r tells) in
    record {
      idle = λ none. one_room r c.in-Ok.spool.room room (c.in-Ok.ensures.room r tells) roomy;
      busy = λ some. absurd (some (subst HasNoProcessing (sym same) idle));
    }

pub returns-then-is_idle-clause-room : goal.returns-then-is_idle-clause-room
returns-then-is_idle-clause-room g c = λ r tells. c.in-Ok.ensures.room r (sym c.in-Ok.ensures.same.bytes ∙ tells)

pub reopen-requires-clause-busy : goal.reopen-requires-clause-busy
reopen-requires-clause-busy g c =
    subst (λ (v : OpenSpool g.row.D.Denot). ¬ (HasNoProcessing v.state)) c.spool.view_is (c.if-is_idle.ensures.busy refl)

pub returns-in-Ok-reopen-clause-opened : goal.returns-in-Ok-reopen-clause-opened
returns-in-Ok-reopen-clause-opened g c = λ r tells.
    record { table = c.in-Ok.spool.state; found = c.in-Ok.ensures.opened r tells; reopened_is = c.in-Ok-reopen.ensures.state.0 }

pub returns-in-Ok-reopen-clause-documents : goal.returns-in-Ok-reopen-clause-documents
returns-in-Ok-reopen-clause-documents g c = λ r t documents tells found has image left.
    let disk = g.D.Disk in
    let loaded = c.in-Ok.spool in
    let new = c.reopen.new.self in
    let legal : IsLegal loaded.state = subst (λ (v : OpenSpool g.row.D.Denot). IsLegal v.state) c.spool.view_is c.is_idle.ensures.legal in
    let same : t ≡ loaded.state = one_table r t loaded.state found (c.in-Ok.ensures.opened r tells) in
    let kept = at_return disk.device g.met.D.Disk.lawful loaded.disk new.disk
    (λ b. (r : List ℕ) (documents : ℕ → List ℕ) → disk.device.bytes loaded.disk ≡ Some r → HasDocuments loaded.state documents r → HasDocuments loaded.state documents b)
    c.reopen.ensures.documents image left r documents (c.in-Ok.ensures.same.bytes ∙ tells) (subst (λ (s : State). HasDocuments s documents r) same has) in
    subst (λ (s : State). HasDocuments s documents image) (sym c.in-Ok-reopen.ensures.state.0)
    (documents_stay loaded.state (reopened loaded.state) documents image (over_after loaded.state Reopen legal refl c.ended_jobs_stay.ensures.accepted) kept)

pub returns-in-Ok-reopen-clause-left : goal.returns-in-Ok-reopen-clause-left
returns-in-Ok-reopen-clause-left g c = λ r t room tells has roomy.
    let busy = subst (λ (v : OpenSpool g.row.D.Denot). ¬ (HasNoProcessing v.state)) c.spool.view_is (c.if-is_idle.ensures.busy refl) in
    let same : t ≡ c.in-Ok.spool.state = one_table r t c.in-Ok.spool.state has (c.in-Ok.ensures.opened r tells) in
    record {
      idle = λ none. absurd (busy (subst HasNoProcessing same none));
      busy = λ some. c.in-Ok-reopen.ensures.left ∙ ap (λ (n : ℕ). n - record_len Reopen) (one_room r c.in-Ok.spool.room room (c.in-Ok.ensures.room r tells) roomy);
    }

pub returns-in-Ok-reopen-clause-epoch : goal.returns-in-Ok-reopen-clause-epoch
returns-in-Ok-reopen-clause-epoch g c = λ r tells.
    let has = c.in-Ok.ensures.epoch r tells in
    record { base = has.base; current = has.current; epoch_is = has.epoch_is ∙ sym c.reopen.ensures.epoch }

pub returns-in-Ok-reopen-clause-unwritten : goal.returns-in-Ok-reopen-clause-unwritten
returns-in-Ok-reopen-clause-unwritten g c = λ r t tells has idle.
    let busy = subst (λ (v : OpenSpool g.row.D.Denot). ¬ (HasNoProcessing v.state)) c.spool.view_is (c.if-is_idle.ensures.busy refl) in
    absurd (busy (subst HasNoProcessing (one_table r t c.in-Ok.spool.state has (c.in-Ok.ensures.opened r tells)) idle))

pub returns-in-Ok-reopen-clause-synced : goal.returns-in-Ok-reopen-clause-synced
returns-in-Ok-reopen-clause-synced g c =
    let disk = g.D.Disk in
    let busy = subst (λ (v : OpenSpool g.row.D.Denot). ¬ (HasNoProcessing v.state)) c.spool.view_is (c.if-is_idle.ensures.busy refl) in
    let w = c.in-Ok.ensures.synced in (
      w.0,
      w.1,
      since_sync disk.device c.args.disk c.in-Ok.spool.disk w.0 c.in-Ok.spool.state c.in-Ok.ensures.opened c.in-Ok.ensures.same.bytes w.2
          busy c.reopen.new.self.disk (both_runs disk.device c.in-Ok.spool.disk c.reopen.new.self.disk _ _ c.reopen.ensures.any_moment c.reopen.ensures.documents),
    )

pub returns-in-Ok-reopen-clause-kept : goal.returns-in-Ok-reopen-clause-kept
returns-in-Ok-reopen-clause-kept g c = λ told. c.in-Ok-reopen.ensures.kept (subst IsSome (sym c.in-Ok.ensures.same.bytes) told)

pub returns-in-Err-reopen-clause-blames : goal.returns-in-Err-reopen-clause-blames
returns-in-Err-reopen-clause-blames g c =
    let failures = g.D.Disk.device.failures in
    blames_disk (failures c.args.disk) (failures c.in-Ok.spool.disk) (failures c.reopen.new.self.disk) (failures c.into_disk-disk.result) c.in-Err-reopen.fault
    c.in-Ok.ensures.counted (ap failures c.into_disk-disk.ensures) c.in-Err-reopen.ensures.blames

pub returns-in-Err-reopen-clause-back : goal.returns-in-Err-reopen-clause-back
returns-in-Err-reopen-clause-back g c = λ other.
    let disk = g.D.Disk in
    let memory = wants_memory c.in-Err-reopen.fault c.in-Err-reopen.ensures.fault other in
    let same = c.into_disk-disk.ensures ∙ ap (λ (v : OpenSpool g.row.D.Denot). v.disk) (c.in-Err-reopen.ensures.unchanged (ap (λ (f : OpenFault). Err f) memory)) in
    (ap disk.device.bytes same ∙ c.in-Ok.ensures.same.bytes, subst (λ d. LeavesOnly disk.device c.args.disk d (disk.device.image c.args.disk)) (sym same) c.in-Ok.ensures.same.images)

pub returns-in-Err-reopen-clause-failed : goal.returns-in-Err-reopen-clause-failed
returns-in-Err-reopen-clause-failed g c =
    let disk = g.D.Disk in
    let busy = subst (λ (v : OpenSpool g.row.D.Denot). ¬ (HasNoProcessing v.state)) c.spool.view_is (c.if-is_idle.ensures.busy refl) in
    let w = c.in-Ok.ensures.synced in
    inr (
      w.0,
      w.1,
      subst (λ d. LeavesOnly disk.device w.0 d (λ b. (r : List ℕ) → disk.device.bytes c.args.disk ≡ Some r → IsMidway r b)) (sym c.into_disk-disk.ensures)
          (since_sync disk.device c.args.disk c.in-Ok.spool.disk w.0 c.in-Ok.spool.state c.in-Ok.ensures.opened c.in-Ok.ensures.same.bytes w.2
          busy c.reopen.new.self.disk (both_runs disk.device c.in-Ok.spool.disk c.reopen.new.self.disk _ _ c.reopen.ensures.any_moment c.reopen.ensures.documents)),
    )

pub returns-in-Err-reopen-clause-size_back : goal.returns-in-Err-reopen-clause-size_back
returns-in-Err-reopen-clause-size_back g c =
    ap g.D.Disk.device.size c.into_disk-disk.ensures ∙ c.reopen.ensures.fixed ∙ c.in-Ok.ensures.same.size

pub returns-in-Err-clause-failed : goal.returns-in-Err-clause-failed
returns-in-Err-clause-failed g c = inl c.in-Err.ensures.back.images

pub reopen-requires-clause-settled : goal.reopen-requires-clause-settled
reopen-requires-clause-settled g c = λ alive. c.in-Ok.ensures.settled

pub returns-in-Ok-reopen-clause-settled : goal.returns-in-Ok-reopen-clause-settled
returns-in-Ok-reopen-clause-settled g c = c.reopen.ensures.settled c.in-Ok-reopen.ensures.alive
