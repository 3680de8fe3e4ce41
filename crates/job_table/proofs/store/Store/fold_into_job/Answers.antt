-- The row is changed at its position.
use Rattle.std.proofs.Common.{IsSome, refl, sym, ap, subst, ◌∙◌}
use Rattle.std.specs.FinMap as finite
use Rattle.spool_types.specs.State.{State, job_at}
use Rattle.job_table.specs.Contents.{Contents, places_at}
use Rattle.job_table.specs.Attempts.{with_pages}
use Rattle.job_table.specs.EventChanges.{change_job}
use Rattle.job_table.specs.TableFields.{contents_of}
use Rattle.job_table.proofs.Changes.{changed_stays}
use Rattle.job_table.proofs.Legal.{legal_print}
use Rattle.job_table.proofs.Rooms.{room_seen}
use Rattle.job_table.proofs.Steps.{change_state, change_ordered, change_room, same_places}
use Rattle.job_rows.specs.NumberedRows.{position_in}
use Rattle.job_table.proofs.Numbered.{needs_number, row_place}
use Rattle.job_table.proofs.store.Store.fold_into_job.Goals as goal

pub row_mut-requires : goal.row_mut-requires
row_mut-requires c = needs_number c.self.inside.jobs c.self.invariant.own c.self.invariant.jobs c.args.job
    (subst (λ v. IsSome (finite.get v.state.jobs c.args.job)) (sym c.self.view_is) c.requires)

pub invariant_of-self : goal.invariant_of-self
invariant_of-self c = change_ordered c.self.inside c.self.invariant c.args.job (position_in c.self.inside.jobs.numbers c.args.job) c.row_mut.result.now c.add_pages.new.row (sym c.row_mut.ensures.found.is)
    (row_place c.self.inside.jobs c.self.invariant.own c.self.invariant.jobs c.args.job c.row_mut.result.now c.row_mut.ensures.found) (with_pages c.args.effects.now) (λ x. refl)
    c.add_pages.ensures.row c.add_pages.ensures.memory
    (legal_print (contents_of c.self.inside).state c.args.job c.args.effects.now c.self.invariant.legal)

pub returns-clause-state : goal.returns-clause-state
returns-clause-state c =
    change_state c.self.inside c.self.invariant c.args.job (position_in c.self.inside.jobs.numbers c.args.job) c.row_mut.result.now c.add_pages.new.row (sym c.row_mut.ensures.found.is)
    (row_place c.self.inside.jobs c.self.invariant.own c.self.invariant.jobs c.args.job c.row_mut.result.now c.row_mut.ensures.found) (with_pages c.args.effects.now) (λ x. refl)
    c.add_pages.ensures.row c.add_pages.ensures.memory
    ∙ ap (λ v. change_job v.state c.args.job (with_pages c.args.effects.now)) c.self.view_is

pub returns-clause-there : goal.returns-clause-there
returns-clause-there c =
    subst (λ (s : State). IsSome (job_at s c.args.job)) (sym (
    change_state c.self.inside c.self.invariant c.args.job (position_in c.self.inside.jobs.numbers c.args.job) c.row_mut.result.now c.add_pages.new.row (sym c.row_mut.ensures.found.is)
    (row_place c.self.inside.jobs c.self.invariant.own c.self.invariant.jobs c.args.job c.row_mut.result.now c.row_mut.ensures.found) (with_pages c.args.effects.now) (λ x. refl)
    c.add_pages.ensures.row c.add_pages.ensures.memory
    ∙ ap (λ v. change_job v.state c.args.job (with_pages c.args.effects.now)) c.self.view_is))
    (changed_stays c.args.self.now.state c.args.job (with_pages c.args.effects.now) _ refl c.requires)

pub returns-clause-room : goal.returns-clause-room
returns-clause-room c = room_seen c.self.view_is
    (change_room c.self.inside c.self.invariant c.args.job (position_in c.self.inside.jobs.numbers c.args.job) c.row_mut.result.now c.add_pages.new.row (sym c.row_mut.ensures.found.is)
    (row_place c.self.inside.jobs c.self.invariant.own c.self.invariant.jobs c.args.job c.row_mut.result.now c.row_mut.ensures.found) (with_pages c.args.effects.now) (λ x. refl)
    c.add_pages.ensures.row c.add_pages.ensures.memory)

pub returns-clause-spare : goal.returns-clause-spare
returns-clause-spare c = ap (λ v. v.room.spare) c.self.view_is

pub returns-clause-places : goal.returns-clause-places
returns-clause-places c = λ j.
    same_places c.self.inside c.self.invariant c.args.job (position_in c.self.inside.jobs.numbers c.args.job) c.row_mut.result.now c.add_pages.new.row (sym c.row_mut.ensures.found.is)
    (row_place c.self.inside.jobs c.self.invariant.own c.self.invariant.jobs c.args.job c.row_mut.result.now c.row_mut.ensures.found) (with_pages c.args.effects.now) (λ x. refl)
    c.add_pages.ensures.row c.add_pages.ensures.memory (ap (λ d. d.items) c.add_pages.ensures.document) j
    ∙ ap (λ (v : Contents). places_at v j) c.self.view_is
