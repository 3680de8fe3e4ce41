use Rattle.std.proofs.Common.{◌≡◌, List, ℕ, Result, OnOk, Some, false, sym, subst}
use Rattle.std.specs.Prelude.{IsSome}
use Rattle.spool_types.specs.State.{State}
use Rattle.spool_disk.specs.Disk.{LeavesOnly}
use Rattle.spool_core.specs.Image.{HasTable, HasDocuments, HasWhole}
use Rattle.spool_core.specs.Batch.{IsTableOf, HasBeforeOrAllEvents, HasWholeBeforeOrAll}
use Rattle.spool_core.specs.OpenSpools.{OpenSpool, shown_bytes}
use Rattle.spool_core.specs.SpoolFields.{open_spool_of}
use Rattle.spool_core.proofs.BatchLaws.{staged_none}
use Rattle.spool_areas.specs.declared.fault.ReadFault.{ReadFault}
use Rattle.spool_core.proofs.spool.Spool.settle.Goals as goal
use Rattle.spool_core.proofs.spool.Spool.settle.Goals.{in-Ok, in-Err-Disk, in-Err-Dead}

pub settle_records-requires : goal.settle_records-requires
settle_records-requires g c = c.self.invariant.staged

pub invariant_of-self : goal.invariant_of-self
invariant_of-self g c =
    record {
      stands = staged_none g.D.Disk.device c.settle_records.new.areas c.self.inside.table c.settle_records.ensures.stands;
      staged = c.settle_records.ensures.stands;
      unmoved = c.self.invariant.unmoved;
    }

pub returns-clause-any_moment : goal.returns-clause-any_moment
returns-clause-any_moment g c =
    let v = g.D.Disk.device in
    subst (λ (s : OpenSpool g.row.D.Denot). s.dead ≡ false → (before : State) → IsTableOf v s.disk before → LeavesOnly v s.disk c.settle_records.new.areas.disk (HasBeforeOrAllEvents before s.state)) c.self.view_is c.settle_records.ensures.any_moment

pub returns-clause-documents : goal.returns-clause-documents
returns-clause-documents g c =
    let v = g.D.Disk.device in
    subst (λ (x : OpenSpool g.row.D.Denot). x.dead ≡ false → (r s : List ℕ) (before : State) (documents sent : ℕ → List ℕ) → v.bytes x.disk ≡ Some r → shown_bytes v x ≡ Some s → HasWhole before documents r → HasDocuments x.state sent s
    → LeavesOnly v x.disk c.settle_records.new.areas.disk (HasWholeBeforeOrAll before documents x.state sent)) c.self.view_is c.settle_records.ensures.documents

pub returns-clause-kept : goal.returns-clause-kept
returns-clause-kept g c =
    let v = g.D.Disk.device in
    let old = c.self.inside.areas in
    let t = c.self.inside.table in
    let new = c.settle_records.new.areas in
    subst (λ (x : OpenSpool g.row.D.Denot). OnOk c.match-settle_records.result (IsSome (v.bytes x.disk) → (b : List ℕ) → v.image new.disk b → HasTable t.state b)) c.self.view_is
    (elim c.match-settle_records.branch [
      | in-Ok w ↦ subst (λ (r : Result (Unit {0}) ReadFault). OnOk r (IsSome (v.bytes old.disk) → (b : List ℕ) → v.image new.disk b → HasTable t.state b)) (sym w.result-is) w.in-Ok.ensures.kept
      | in-Err-Disk w ↦ subst (λ (r : Result (Unit {0}) ReadFault). OnOk r (IsSome (v.bytes old.disk) → (b : List ℕ) → v.image new.disk b → HasTable t.state b)) (sym w.result-is) tt
      | in-Err-Dead w ↦ subst (λ (r : Result (Unit {0}) ReadFault). OnOk r (IsSome (v.bytes old.disk) → (b : List ℕ) → v.image new.disk b → HasTable t.state b)) (sym w.result-is) tt
    ])

pub returns-clause-sent : goal.returns-clause-sent
returns-clause-sent g c =
    let v = g.D.Disk.device in
    let old = c.self.inside.areas in
    let t = c.self.inside.table in
    let new = c.settle_records.new.areas in
    subst (λ (x : OpenSpool g.row.D.Denot). OnOk c.match-settle_records.result ((s : List ℕ) (documents : ℕ → List ℕ) → shown_bytes v x ≡ Some s → HasDocuments x.state documents s → (b : List ℕ) → v.image new.disk b → HasDocuments t.state documents b)) c.self.view_is
    (elim c.match-settle_records.branch [
      | in-Ok w ↦ subst (λ (r : Result (Unit {0}) ReadFault). OnOk r ((s : List ℕ) (documents : ℕ → List ℕ) → shown_bytes v (open_spool_of c.self.inside) ≡ Some s → HasDocuments t.state documents s → (b : List ℕ) → v.image new.disk b → HasDocuments t.state documents b)) (sym w.result-is) w.in-Ok.ensures.sent
      | in-Err-Disk w ↦ subst (λ (r : Result (Unit {0}) ReadFault). OnOk r ((s : List ℕ) (documents : ℕ → List ℕ) → shown_bytes v (open_spool_of c.self.inside) ≡ Some s → HasDocuments t.state documents s → (b : List ℕ) → v.image new.disk b → HasDocuments t.state documents b)) (sym w.result-is) tt
      | in-Err-Dead w ↦ subst (λ (r : Result (Unit {0}) ReadFault). OnOk r ((s : List ℕ) (documents : ℕ → List ℕ) → shown_bytes v (open_spool_of c.self.inside) ≡ Some s → HasDocuments t.state documents s → (b : List ℕ) → v.image new.disk b → HasDocuments t.state documents b)) (sym w.result-is) tt
    ])
