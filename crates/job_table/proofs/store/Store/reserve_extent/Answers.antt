-- The meaning of the row does not change, and its document has the room.
use Rattle.std.proofs.Common.{◌+◌, ◌≤◌, sym, ap, subst, ◌∙◌, arith, IsSome}
use Rattle.std.specs.Vec.{vec_len, vec_capacity}
use Rattle.std.specs.FinMap as finite
use Rattle.std.proofs.lemmas.Result.{on_ok_weaker}
use Rattle.spool_types.specs.State.{job_of}
use Rattle.spool_types.specs.declared.rows.JobRow.{JobRow}
use Rattle.job_table.specs.Contents.{document_room}
use Rattle.job_rows.specs.NumberedRows.{position_in}
use Rattle.job_table.proofs.Numbered.{needs_number, row_place, row_there}
use Rattle.job_table.proofs.Steps.{document_fits, kept_state, kept_ordered, kept_places, kept_room}
use Rattle.job_table.proofs.store.Store.reserve_extent.Goals as goal

pub row_mut-requires : goal.row_mut-requires
row_mut-requires c = needs_number c.self.inside.jobs c.self.invariant.own c.self.invariant.jobs c.args.job
    (subst (λ v. IsSome (finite.get v.state.jobs c.args.job)) (sym c.self.view_is) c.requires.there)

pub invariant_of-self : goal.invariant_of-self
invariant_of-self c = kept_ordered c.self.inside c.self.invariant c.args.job (position_in c.self.inside.jobs.numbers c.args.job) c.row_mut.result.now (record c.row_mut.result.now { document = c.reserve.new.self })
    (row_place c.self.inside.jobs c.self.invariant.own c.self.invariant.jobs c.args.job c.row_mut.result.now c.row_mut.ensures.found)
    (ap job_of (sym c.row_mut.ensures.found.is))
    (c.requires.live (job_of c.row_mut.result.now) (
    ap (λ v. finite.get v.state.jobs c.args.job) (sym c.self.view_is)
    ∙ row_there c.self.inside.jobs c.self.invariant.own c.self.invariant.jobs c.args.job c.row_mut.result.now c.row_mut.ensures.found))
    (c.reserve.ensures.items ∙ ap (λ (r : JobRow). r.document.items) (sym c.row_mut.ensures.found.is))

pub returns-clause-same : goal.returns-clause-same
returns-clause-same c =
    kept_state c.self.inside c.self.invariant c.args.job (position_in c.self.inside.jobs.numbers c.args.job) c.row_mut.result.now (record c.row_mut.result.now { document = c.reserve.new.self })
    (row_place c.self.inside.jobs c.self.invariant.own c.self.invariant.jobs c.args.job c.row_mut.result.now c.row_mut.ensures.found)
    (ap job_of (sym c.row_mut.ensures.found.is))
    (c.requires.live (job_of c.row_mut.result.now) (
    ap (λ v. finite.get v.state.jobs c.args.job) (sym c.self.view_is)
    ∙ row_there c.self.inside.jobs c.self.invariant.own c.self.invariant.jobs c.args.job c.row_mut.result.now c.row_mut.ensures.found))
    (c.reserve.ensures.items ∙ ap (λ (r : JobRow). r.document.items) (sym c.row_mut.ensures.found.is))
    ∙ ap (λ v. v.state) c.self.view_is

pub returns-clause-room : goal.returns-clause-room
returns-clause-room c =
    let room = kept_room c.self.inside c.self.invariant c.args.job (position_in c.self.inside.jobs.numbers c.args.job) c.row_mut.result.now (record c.row_mut.result.now { document = c.reserve.new.self })
    (row_place c.self.inside.jobs c.self.invariant.own c.self.invariant.jobs c.args.job c.row_mut.result.now c.row_mut.ensures.found)
    (ap job_of (sym c.row_mut.ensures.found.is))
    (c.requires.live (job_of c.row_mut.result.now) (
    ap (λ v. finite.get v.state.jobs c.args.job) (sym c.self.view_is)
    ∙ row_there c.self.inside.jobs c.self.invariant.own c.self.invariant.jobs c.args.job c.row_mut.result.now c.row_mut.ensures.found))
    (c.reserve.ensures.items ∙ ap (λ (r : JobRow). r.document.items) (sym c.row_mut.ensures.found.is)) in
    on_ok_weaker c.reserve.result (λ (fits : vec_len c.reserve.new.self + 1 ≤ vec_capacity c.reserve.new.self). rw room (omega arith)) c.reserve.ensures.ok

pub returns-clause-ready : goal.returns-clause-ready
returns-clause-ready c = λ room. c.reserve.ensures.succeeds
    (document_fits c.self.inside c.self.invariant c.args.job (position_in c.self.inside.jobs.numbers c.args.job) c.row_mut.result.now (row_place c.self.inside.jobs c.self.invariant.own c.self.invariant.jobs c.args.job c.row_mut.result.now c.row_mut.ensures.found) 1
    (subst (λ v. 1 ≤ document_room v.room c.args.job) (sym c.self.view_is) room)
    c.row_mut.result.now (sym c.row_mut.ensures.found.is))

pub returns-clause-places : goal.returns-clause-places
returns-clause-places c =
    kept_places c.self.inside c.self.invariant c.args.job (position_in c.self.inside.jobs.numbers c.args.job) c.row_mut.result.now (record c.row_mut.result.now { document = c.reserve.new.self })
    (row_place c.self.inside.jobs c.self.invariant.own c.self.invariant.jobs c.args.job c.row_mut.result.now c.row_mut.ensures.found)
    (ap job_of (sym c.row_mut.ensures.found.is))
    (c.requires.live (job_of c.row_mut.result.now) (
    ap (λ v. finite.get v.state.jobs c.args.job) (sym c.self.view_is)
    ∙ row_there c.self.inside.jobs c.self.invariant.own c.self.invariant.jobs c.args.job c.row_mut.result.now c.row_mut.ensures.found))
    (c.reserve.ensures.items ∙ ap (λ (r : JobRow). r.document.items) (sym c.row_mut.ensures.found.is))
    ∙ ap (λ v. v.places) c.self.view_is
