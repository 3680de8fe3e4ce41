-- The row is inserted at its gap.
use Rattle.std.proofs.Common.{◌<◌, sym, ap, subst, ◌∙◌, arith}
use Rattle.std.specs.FinMap as finite
use Rattle.spool_types.specs.declared.event.Event.TheVariants.{AddQueue}
use Rattle.std.specs.List.{insert}
use Rattle.job_table.specs.Contents.{Contents, places_at}
use Rattle.job_table.specs.TableFields.{contents_of}
use Rattle.job_table.specs.Step.{after, refusal_of}
use Rattle.job_table.proofs.Accepted.{accepted_queue}
use Rattle.job_table.proofs.Legal.{legal_after}
use Rattle.job_table.proofs.Tables.{some_queue, there_and_not}
use Rattle.job_table.proofs.Rooms.{room_seen, fits}
use Rattle.job_table.proofs.Steps.{add_queue_state, add_queue_ordered, add_queue_room}
use Rattle.job_table.proofs.store.Store.add_queue.Goals as goal

pub unreachable-requires : goal.unreachable-requires
unreachable-requires c =
    let there = some_queue c.self.inside.queues.items c.self.invariant.queues c.args.queue.name _ (rw c.deref.ensures.value at c.in-Ok.ensures.found) in
    there_and_not _ _ _ there.1 (accepted_queue c.args.self.now.state c.args.queue c.requires.accepted) (ap (λ v. finite.get v.state.queues c.args.queue.name) c.self.view_is)

pub invariant_of-self : goal.invariant_of-self
invariant_of-self c = add_queue_ordered c.self.inside c.self.invariant c.args.queue c.insert.new.self c.in-Err.at
    (rw c.deref.ensures.value at c.in-Err.ensures.absent)
    (rw c.unwrap.ensures at c.insert.ensures.items ∙ ap (insert c.self.inside.queues.items c.in-Err.at) c.new_queue_row-row.ensures)
    (legal_after (contents_of c.self.inside).state (AddQueue c.args.queue) tt (ap (λ v. refusal_of v.state (AddQueue c.args.queue)) c.self.view_is ∙ c.requires.accepted) c.self.invariant.legal)

pub returns-clause-state : goal.returns-clause-state
returns-clause-state c =
    add_queue_state c.self.inside c.self.invariant c.args.queue c.insert.new.self c.in-Err.at
    (rw c.deref.ensures.value at c.in-Err.ensures.absent)
    (rw c.unwrap.ensures at c.insert.ensures.items ∙ ap (insert c.self.inside.queues.items c.in-Err.at) c.new_queue_row-row.ensures)
    ∙ ap (λ v. after v.state (AddQueue c.args.queue)) c.self.view_is

pub returns-clause-room : goal.returns-clause-room
returns-clause-room c = room_seen c.self.view_is
    (add_queue_room c.self.inside c.self.invariant c.args.queue c.insert.new.self c.in-Err.at
    (rw c.deref.ensures.value at c.in-Err.ensures.absent)
    (rw c.unwrap.ensures at c.insert.ensures.items ∙ ap (insert c.self.inside.queues.items c.in-Err.at) c.new_queue_row-row.ensures)
    (c.insert.ensures.in_place (fits c.self.inside.queues (subst (λ v. 0 < v.room.queues) (sym c.self.view_is) c.requires.room))).1.0
    (omega (arith, rw c.unwrap.ensures at c.insert.ensures.len)))

pub returns-clause-places : goal.returns-clause-places
returns-clause-places c = λ j lives. ap (λ (v : Contents). places_at v j) c.self.view_is
