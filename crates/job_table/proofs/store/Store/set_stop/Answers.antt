-- The row is changed at its position.
use Rattle.std.proofs.Common.{refl, ap, ◌∙◌}
use Rattle.std.specs.FinMap as finite
use Rattle.spool_types.specs.declared.event.Event.TheVariants.{SetStop}
use Rattle.job_table.specs.Contents.{Contents, places_at}
use Rattle.job_table.specs.EventChanges.{with_stopped}
use Rattle.job_table.specs.Step.{after, refusal_of}
use Rattle.job_table.specs.TableFields.{contents_of}
use Rattle.job_table.proofs.Accepted.{queue_there}
use Rattle.job_table.proofs.Legal.{legal_after}
use Rattle.job_table.proofs.Steps.{change_queue_state, change_queue_ordered, change_queue_room}
use Rattle.job_table.proofs.Rooms.{same_room, room_seen}
use Rattle.job_table.proofs.Tables.{get_no_queue, needed_and_not}
use Rattle.job_table.proofs.store.Store.set_stop.Goals as goal

pub unreachable-requires : goal.unreachable-requires
unreachable-requires c =
    needed_and_not _ _ (queue_there c.args.self.now.state (SetStop c.args.queue c.args.stopped) c.args.queue _ refl c.requires)
    (get_no_queue c.self.inside.queues.items c.self.invariant.queues c.args.queue c.in_default.field-0 (rw c.deref.ensures.value at c.in_default.ensures.absent))
    (ap (λ v. finite.get v.state.queues c.args.queue) c.self.view_is)

pub invariant_of-self : goal.invariant_of-self
invariant_of-self c = change_queue_ordered c.self.inside c.self.invariant c.args.queue c.in-Ok.at c.index_mut.result.now c.set_stopped.new.row c.self.inside.spare
    (rw c.deref.ensures.value at c.in-Ok.ensures.found) (with_stopped c.args.stopped) (λ x. refl)
    (c.set_stopped.ensures ∙ ap (with_stopped c.args.stopped) c.index_mut.ensures.value)
    (legal_after (contents_of c.self.inside).state (SetStop c.args.queue c.args.stopped) tt (ap (λ v. refusal_of v.state (SetStop c.args.queue c.args.stopped)) c.self.view_is ∙ c.requires) c.self.invariant.legal)

pub returns-clause-state : goal.returns-clause-state
returns-clause-state c =
    change_queue_state c.self.inside c.self.invariant c.args.queue c.in-Ok.at c.index_mut.result.now c.set_stopped.new.row c.self.inside.spare
    (rw c.deref.ensures.value at c.in-Ok.ensures.found) (with_stopped c.args.stopped) (λ x. refl)
    (c.set_stopped.ensures ∙ ap (with_stopped c.args.stopped) c.index_mut.ensures.value)
    ∙ ap (λ v. after v.state (SetStop c.args.queue c.args.stopped)) c.self.view_is

pub returns-clause-room : goal.returns-clause-room
returns-clause-room c = room_seen c.self.view_is
    (change_queue_room c.self.inside c.self.invariant c.args.queue c.in-Ok.at c.index_mut.result.now c.set_stopped.new.row c.self.inside.spare
    (rw c.deref.ensures.value at c.in-Ok.ensures.found) (with_stopped c.args.stopped) (λ x. refl)
    (c.set_stopped.ensures ∙ ap (with_stopped c.args.stopped) c.index_mut.ensures.value)
    (same_room _) (same_room _))

pub returns-clause-places : goal.returns-clause-places
returns-clause-places c = λ j lives. ap (λ (v : Contents). places_at v j) c.self.view_is
