use Rattle.std.proofs.Common.{◌≡◌, ◌+◌, List, ℕ, Some, false, subst, sym}
use Rattle.std.specs.Prelude.{IsSome, OnOk}
use Rattle.spool_types.specs.State.{State}
use Rattle.spool_disk.specs.Disk.{LeavesOnly}
use Rattle.spool_core.specs.OpenSpools.{OpenSpool, IsSettled}
use Rattle.spool_core.specs.SpoolFields.{open_spool_at, open_spool_of}
use Rattle.spool_core.specs.Image.{HasTable, HasDocuments}
use Rattle.spool_core.specs.Checkpointing.{IsCheckpointed}
use Rattle.spool_core.proofs.BatchLaws.{open_staged}
use Rattle.spool_core.proofs.ChangeLaws.{next_epoch, still_shown}
use Rattle.spool_core.proofs.ImageLaws.{go_on, stands_on}
use Rattle.spool_core.proofs.spool.Spool.checkpoint.Goals as goal

pub returns-clause-documents : goal.returns-clause-documents
returns-clause-documents g c =
    let v = g.D.Disk.device in
    subst
    (λ (x : OpenSpool g.row.D.Denot). x.dead ≡ false → (r : List ℕ) (documents : ℕ → List ℕ) → v.bytes x.disk ≡ Some r → HasDocuments x.state documents r → LeavesOnly v x.disk c.change_areas-changed.new.areas.disk (HasDocuments x.state documents))
    c.self.view_is c.change_areas-changed.ensures.documents

pub returns-clause-listed : goal.returns-clause-listed
returns-clause-listed g c =
    let v = g.D.Disk.device in
    let s = c.self.inside.table.state in
    let areas = c.change_areas-changed.new.areas in
    subst (λ (x : OpenSpool g.row.D.Denot). OnOk c.change_areas-changed.result (IsSome (v.bytes x.disk) → (b : List ℕ) → v.image areas.disk b → IsCheckpointed x.state (x.epoch + 1) b)) c.self.view_is
    (next_epoch v (open_spool_of c.self.inside) (open_spool_at areas c.change_areas-changed.new.table.state) s (IsSome (v.bytes c.self.inside.areas.disk)) (λ b. v.image areas.disk b) c.change_areas-changed.result c.change_areas-changed.ensures.answer c.change_areas-changed.ensures.listed)

pub returns-clause-kept : goal.returns-clause-kept
returns-clause-kept g c =
    let v = g.D.Disk.device in
    let areas = c.change_areas-changed.new.areas in
    let table = c.change_areas-changed.new.table in
    subst (λ (s : State). OnOk c.change_areas-changed.result (IsSome (v.bytes c.args.self.now.disk) → (b : List ℕ) → v.image areas.disk b → HasTable s b)) (sym c.forget_moves.ensures.same)
    (subst (λ (x : OpenSpool g.row.D.Denot). OnOk c.change_areas-changed.result (IsSome (v.bytes x.disk) → (b : List ℕ) → v.image areas.disk b → HasTable table.state b)) c.self.view_is
    (still_shown v g.met.D.Disk.lawful (open_spool_of c.self.inside) areas table c.change_areas-changed.result c.change_areas-changed.ensures.answer c.change_areas-changed.ensures.open_spool c.change_areas-changed.ensures.told.1))

pub invariant_of-self : goal.invariant_of-self
invariant_of-self g c =
    let v = g.D.Disk.device in
    let areas = c.change_areas-changed.new.areas in
    let stands = stands_on v areas areas c.change_areas-changed.new.table c.forget_moves.new.self (go_on v areas) c.forget_moves.ensures.same c.forget_moves.ensures.places c.change_areas-changed.ensures.open_spool in
    record {
      stands = λ settled. stands;
      staged = open_staged v g.met.D.Disk.lawful areas c.forget_moves.new.self c.change_areas-changed.ensures.settled stands;
      unmoved = c.forget_moves.ensures.none;
    }

pub change_areas-changed-requires : goal.change_areas-changed-requires
change_areas-changed-requires g c =
    let settled = subst (λ (x : OpenSpool g.row.D.Denot). IsSettled x) (sym c.self.view_is) c.requires.settled in
    record { open_spool = c.self.invariant.stands settled; settled = settled }
