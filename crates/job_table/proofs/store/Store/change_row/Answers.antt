-- The row is changed at its position.
use Rattle.std.proofs.Common.{◌≡◌, None, Some, sym, ap, subst, ◌∙◌, IsSome}
use Rattle.std.specs.FinMap as finite
use Rattle.spool_types.specs.State.{job_of, job_at}
use Rattle.job_table.specs.Contents.{Contents, places_at}
use Rattle.job_table.specs.EventChanges.{change_job}
use Rattle.job_table.specs.Legal.{IsLegal}
use Rattle.job_table.specs.RowChanges.{meant}
use Rattle.job_table.specs.TableFields.{contents_of}
use Rattle.job_table.specs.Shapes.{Change, causes_of, made}
use Rattle.job_table.specs.Step.{row, refusal_of}
use Rattle.job_table.proofs.Accepted.{has_job, job_live}
use Rattle.job_table.proofs.Legal.{KeepsBy, legal_after}
use Rattle.job_table.proofs.RowChanges.{meant_id}
use Rattle.job_table.proofs.Steps.{change_state, change_ordered, change_room, change_places}
use Rattle.job_table.proofs.Rooms.{room_seen}
use Rattle.job_rows.specs.NumberedRows.{position_in}
use Rattle.job_table.proofs.Numbered.{needs_number, row_place, row_there}
use Rattle.job_table.proofs.store.Store.change_row.Goals as goal

pub row_mut-requires : goal.row_mut-requires
row_mut-requires c =
    let s = c.args.self.now.state in
    needs_number c.self.inside.jobs c.self.invariant.own c.self.invariant.jobs c.args.job
    (subst (λ v. IsSome (finite.get v.state.jobs c.args.job)) (sym c.self.view_is)
    (has_job s c.requires.asked.event c.args.job ((row c.requires.asked.event).own s) (ap (λ (change : Change). causes_of s change ((row c.requires.asked.event).own s)) c.requires.asked.changes) c.requires.asked.accepted))

pub change_row-requires-clause-live : goal.change_row-requires-clause-live
change_row-requires-clause-live c =
    let s = (contents_of c.self.inside).state in
    let there : job_at s c.args.job ≡ Some (job_of c.row_mut.result.now) =
    row_there c.self.inside.jobs c.self.invariant.own c.self.invariant.jobs c.args.job c.row_mut.result.now c.row_mut.ensures.found in
    job_live s c.requires.asked.event c.args.job ((row c.requires.asked.event).own s) (job_of c.row_mut.result.now) (ap (λ (change : Change). causes_of s change ((row c.requires.asked.event).own s)) c.requires.asked.changes) there
    (ap (λ v. refusal_of v.state c.requires.asked.event) c.self.view_is ∙ c.requires.asked.accepted)

pub invariant_of-self : goal.invariant_of-self
invariant_of-self c =
    let s = (contents_of c.self.inside).state in
    let is = c.requires.asked.changes in
    let accepted : refusal_of s c.requires.asked.event ≡ None = ap (λ v. refusal_of v.state c.requires.asked.event) c.self.view_is ∙ c.requires.asked.accepted in
    change_ordered c.self.inside c.self.invariant c.args.job (position_in c.self.inside.jobs.numbers c.args.job) c.row_mut.result.now c.change_row.new.row (sym c.row_mut.ensures.found.is)
    (row_place c.self.inside.jobs c.self.invariant.own c.self.invariant.jobs c.args.job c.row_mut.result.now c.row_mut.ensures.found) (meant c.args.change) (meant_id c.args.change)
    c.change_row.ensures.row c.change_row.ensures.memory
    (subst (λ (change : Change). IsLegal (made s change)) is (legal_after s c.requires.asked.event (subst KeepsBy (sym is) tt) accepted c.self.invariant.legal))

pub returns-clause-state : goal.returns-clause-state
returns-clause-state c =
    change_state c.self.inside c.self.invariant c.args.job (position_in c.self.inside.jobs.numbers c.args.job) c.row_mut.result.now c.change_row.new.row (sym c.row_mut.ensures.found.is)
    (row_place c.self.inside.jobs c.self.invariant.own c.self.invariant.jobs c.args.job c.row_mut.result.now c.row_mut.ensures.found) (meant c.args.change) (meant_id c.args.change)
    c.change_row.ensures.row c.change_row.ensures.memory
    ∙ ap (λ v. change_job v.state c.args.job (meant c.args.change)) c.self.view_is

pub returns-clause-room : goal.returns-clause-room
returns-clause-room c = room_seen c.self.view_is
    (change_room c.self.inside c.self.invariant c.args.job (position_in c.self.inside.jobs.numbers c.args.job) c.row_mut.result.now c.change_row.new.row (sym c.row_mut.ensures.found.is)
    (row_place c.self.inside.jobs c.self.invariant.own c.self.invariant.jobs c.args.job c.row_mut.result.now c.row_mut.ensures.found) (meant c.args.change) (meant_id c.args.change)
    c.change_row.ensures.row c.change_row.ensures.memory)

pub returns-clause-places : goal.returns-clause-places
returns-clause-places c = λ j lives.
    change_places c.self.inside c.self.invariant c.args.job (position_in c.self.inside.jobs.numbers c.args.job) c.row_mut.result.now c.change_row.new.row (sym c.row_mut.ensures.found.is)
    (row_place c.self.inside.jobs c.self.invariant.own c.self.invariant.jobs c.args.job c.row_mut.result.now c.row_mut.ensures.found) (meant c.args.change) (meant_id c.args.change)
    c.change_row.ensures.row c.change_row.ensures.memory
    c.change_row.ensures.document j lives
    ∙ ap (λ (v : Contents). places_at v j) c.self.view_is
