-- The row of a job that has ended is removed at its position.
use Rattle.std.proofs.Common.{◌≡◌, Some, sym, ap, ◌∙◌}
use Rattle.std.specs.FinMap as finite
use Rattle.spool_types.specs.declared.event.Event.TheVariants.{Purge}
use Rattle.spool_types.specs.State.{job_of, job_at}
use Rattle.job_rows.specs.NumberedRows.{Listed, position_in}
use Rattle.job_table.specs.Contents.{Contents, places_at}
use Rattle.job_table.specs.TableFields.{contents_of}
use Rattle.job_table.specs.Step.{row, after, refusal_of}
use Rattle.job_table.proofs.Accepted.{accepted_purge, gone_found}
use Rattle.job_table.proofs.Changes.{at_most_highest}
use Rattle.job_table.proofs.Legal.{legal_after}
use Rattle.job_table.proofs.Rooms.{room_seen}
use Rattle.job_table.proofs.Steps.{purge_state, purge_ordered, purge_room, purge_places}
use Rattle.job_table.proofs.Numbered.{has_number, row_place, row_there}
use Rattle.job_table.proofs.store.Store.purge.Goals as goal

pub remove-requires : goal.remove-requires
remove-requires c =
    let s = c.args.self.now.state in
    let there = gone_found s c.args.job ((row (Purge c.args.job)).own s) c.requires in
    has_number c.self.inside.jobs c.self.invariant.own c.self.invariant.jobs c.args.job there.0
    (ap (λ v. finite.get v.state.jobs c.args.job) c.self.view_is ∙ there.1)

pub invariant_of-self : goal.invariant_of-self
invariant_of-self c =
    let s = (contents_of c.self.inside).state in
    purge_ordered c.self.inside c.self.invariant c.args.job (position_in c.self.inside.jobs.numbers c.args.job) (row_place c.self.inside.jobs c.self.invariant.own c.self.invariant.jobs c.args.job c.remove.result c.remove.ensures.found) c.remove.new.self (ap (λ (v : Listed). v.items) c.remove.ensures.rows)
    (ap (λ (v : Listed). v.numbers) c.remove.ensures.rows)
    (legal_after s (Purge c.args.job) tt (ap (λ v. refusal_of v.state (Purge c.args.job)) c.self.view_is ∙ c.requires) c.self.invariant.legal)

pub returns-clause-state : goal.returns-clause-state
returns-clause-state c =
    purge_state c.self.inside c.self.invariant c.args.job (position_in c.self.inside.jobs.numbers c.args.job) (row_place c.self.inside.jobs c.self.invariant.own c.self.invariant.jobs c.args.job c.remove.result c.remove.ensures.found) c.remove.new.self (ap (λ (v : Listed). v.items) c.remove.ensures.rows)
    ∙ ap (λ v. after v.state (Purge c.args.job)) c.self.view_is

pub returns-clause-row : goal.returns-clause-row
returns-clause-row c =
    sym (ap (λ v. job_at v.state c.args.job) c.self.view_is)
    ∙ row_there c.self.inside.jobs c.self.invariant.own c.self.invariant.jobs c.args.job c.remove.result c.remove.ensures.found

pub returns-clause-ended : goal.returns-clause-ended
returns-clause-ended c =
    let s = (contents_of c.self.inside).state in
    let there : job_at s c.args.job ≡ Some (job_of c.remove.result) =
    row_there c.self.inside.jobs c.self.invariant.own c.self.invariant.jobs c.args.job c.remove.result c.remove.ensures.found in
    accepted_purge s c.args.job (job_of c.remove.result) there (ap (λ v. refusal_of v.state (Purge c.args.job)) c.self.view_is ∙ c.requires)

pub returns-clause-places : goal.returns-clause-places
returns-clause-places c = λ j lives.
    let s = (contents_of c.self.inside).state in
    let there : job_at s c.args.job ≡ Some (job_of c.remove.result) =
    row_there c.self.inside.jobs c.self.invariant.own c.self.invariant.jobs c.args.job c.remove.result c.remove.ensures.found in
    purge_places c.self.inside c.self.invariant c.args.job (position_in c.self.inside.jobs.numbers c.args.job) (row_place c.self.inside.jobs c.self.invariant.own c.self.invariant.jobs c.args.job c.remove.result c.remove.ensures.found) c.remove.new.self (ap (λ (v : Listed). v.items) c.remove.ensures.rows)
    (at_most_highest s c.args.job (job_of c.remove.result) c.self.invariant.legal there) j lives
    ∙ ap (λ (v : Contents). places_at v j) c.self.view_is

pub returns-clause-room : goal.returns-clause-room
returns-clause-room c = room_seen c.self.view_is
    (purge_room c.self.inside c.self.invariant c.args.job (position_in c.self.inside.jobs.numbers c.args.job) (row_place c.self.inside.jobs c.self.invariant.own c.self.invariant.jobs c.args.job c.remove.result c.remove.ensures.found) c.remove.new.self (ap (λ (v : Listed). v.items) c.remove.ensures.rows))
