use Rattle.std.proofs.Common.{◌≡◌, ◌∙◌, List, ℕ, Some, false, sym, subst}
use Rattle.spool_types.specs.State.{State}
use Rattle.spool_disk.specs.Disk.{LeavesOnly}
use Rattle.spool_core.specs.Image.{HasTable, HasDocuments, HasWhole, documents_after_one}
use Rattle.spool_core.specs.Batch.{IsTableOf}
use Rattle.spool_core.specs.OpenSpools.{OpenSpool, shown_bytes}
use Rattle.spool_core.specs.SpoolFields.{open_spool_at}
use Rattle.spool_core.proofs.BatchLaws.{staged_none}
use Rattle.spool_core.proofs.ImageLaws.{after_step}
use Rattle.spool_core.proofs.spool.Spool.stage.Goals as goal

pub invariant_of-self : goal.invariant_of-self
invariant_of-self g c =
    let led = after_step c.stage_record.new.table c.self.inside.table.state c.commit.new.self.state c.args.next c.commit.result c.in-Ok.ensures.prepared c.stage_record.ensures.same c.commit.ensures.step in
    let stands = c.in-Ok.ensures.added c.commit.new.self led c.commit.ensures.places in
    record {
      stands = staged_none g.D.Disk.device c.stage_record.new.areas c.commit.new.self stands;
      staged = stands;
      unmoved = c.commit.ensures.moves ∙ c.stage_record.ensures.moves ∙ c.self.invariant.unmoved;
    }

pub invariant_of-self-in-Err : goal.invariant_of-self-in-Err
invariant_of-self-in-Err g c =
    record {
      stands = staged_none g.D.Disk.device c.stage_record.new.areas c.stage_record.new.table c.in-Err.ensures.kept;
      staged = c.in-Err.ensures.kept;
      unmoved = c.stage_record.ensures.moves ∙ c.self.invariant.unmoved;
    }

pub returns-in-Ok-clause-any_moment : goal.returns-in-Ok-clause-any_moment
returns-in-Ok-clause-any_moment g c =
    let v = g.D.Disk.device in
    subst (λ (s : OpenSpool g.row.D.Denot). s.dead ≡ false → (before : State) → IsTableOf v s.disk before → LeavesOnly v s.disk c.stage_record.new.areas.disk (HasTable before)) c.self.view_is c.stage_record.ensures.any_moment

pub returns-in-Err-clause-any_moment : goal.returns-in-Err-clause-any_moment
returns-in-Err-clause-any_moment g c =
    let v = g.D.Disk.device in
    subst (λ (s : OpenSpool g.row.D.Denot). s.dead ≡ false → (before : State) → IsTableOf v s.disk before → LeavesOnly v s.disk c.stage_record.new.areas.disk (HasTable before)) c.self.view_is c.stage_record.ensures.any_moment

pub returns-in-Ok-clause-documents : goal.returns-in-Ok-clause-documents
returns-in-Ok-clause-documents g c =
    let v = g.D.Disk.device in
    subst (λ (s : OpenSpool g.row.D.Denot). s.dead ≡ false → (r : List ℕ) (before : State) (documents : ℕ → List ℕ) → v.bytes s.disk ≡ Some r → HasWhole before documents r → LeavesOnly v s.disk c.stage_record.new.areas.disk (HasWhole before documents)) c.self.view_is
    c.stage_record.ensures.documents

pub returns-in-Err-clause-documents : goal.returns-in-Err-clause-documents
returns-in-Err-clause-documents g c =
    let v = g.D.Disk.device in
    subst (λ (s : OpenSpool g.row.D.Denot). s.dead ≡ false → (r : List ℕ) (before : State) (documents : ℕ → List ℕ) → v.bytes s.disk ≡ Some r → HasWhole before documents r → LeavesOnly v s.disk c.stage_record.new.areas.disk (HasWhole before documents)) c.self.view_is
    c.stage_record.ensures.documents

pub returns-in-Ok-clause-sent : goal.returns-in-Ok-clause-sent
returns-in-Ok-clause-sent g c =
    let v = g.D.Disk.device in
    let led = after_step c.stage_record.new.table c.self.inside.table.state c.commit.new.self.state c.args.next c.commit.result c.in-Ok.ensures.prepared c.stage_record.ensures.same c.commit.ensures.step in
    let new = open_spool_at c.stage_record.new.areas c.commit.new.self.state in
    subst (λ (x : OpenSpool g.row.D.Denot). (r s : List ℕ) (documents : ℕ → List ℕ) → shown_bytes v x ≡ Some r → shown_bytes v new ≡ Some s → HasDocuments x.state documents r
    → HasDocuments c.commit.new.self.state (documents_after_one x.state documents c.args.next) s) c.self.view_is
    (λ r s documents before after has.
    subst (λ (t : State). HasDocuments t (documents_after_one c.self.inside.table.state documents c.args.next) s) (sym led) (c.in-Ok.ensures.sent r s documents before after has))

pub stage_record-requires : goal.stage_record-requires
stage_record-requires g c = c.self.invariant.staged
