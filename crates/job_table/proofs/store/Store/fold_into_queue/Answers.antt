-- The queue of the job is changed at its position.
use Rattle.std.proofs.Common.{◌≡◌, Some, refl, sym, ap, subst, ◌∙◌}
use Rattle.std.specs.FinMap as finite
use Rattle.row_effects.specs.EffectFold.{queue_after}
use Rattle.row_effects.specs.Room.{HasRoom}
use Rattle.spool_types.specs.State.{job_of, job_at}
use Rattle.job_table.specs.Contents.{Contents, places_at}
use Rattle.job_table.specs.EventChanges.{change_own_queue, change_queue_of}
use Rattle.job_table.specs.TableFields.{contents_of}
use Rattle.job_table.proofs.Changes.{legal_change_queue}
use Rattle.job_table.proofs.Rooms.{room_seen}
use Rattle.job_table.proofs.Steps.{change_queue_state, change_queue_ordered, change_queue_room}
use Rattle.job_table.proofs.Numbered.{no_row, row_there}
use Rattle.job_table.proofs.Tables.{get_queue, get_no_queue, needed_and_not}
use Rattle.job_table.proofs.store.Store.fold_into_queue.Goals as goal

pub unreachable-requires : goal.unreachable-requires
unreachable-requires c =
    needed_and_not _ _ c.requires.there
    (no_row c.self.inside.jobs c.self.invariant.own c.self.invariant.jobs c.args.job c.in_default.ensures.absent)
    (ap (λ v. finite.get v.state.jobs c.args.job) c.self.view_is)

pub unreachable-requires-in_default-queue_position : goal.unreachable-requires-in_default-queue_position
unreachable-requires-in_default-queue_position c =
    let there : job_at (contents_of c.self.inside).state c.args.job ≡ Some (job_of c.in-Some.row.now) =
    row_there c.self.inside.jobs c.self.invariant.own c.self.invariant.jobs c.args.job c.in-Some.row.now c.in-Some.ensures.found in
    let none = get_no_queue c.self.inside.queues.items c.self.invariant.queues c.in-Some.row.now.job.queue c.in_default-queue_position.field-0 (rw c.deref.ensures.value at c.in_default-queue_position.ensures.absent) in
    needed_and_not _ _ (c.self.invariant.legal.jobs c.args.job (job_of c.in-Some.row.now) there).queue none (λ i. finite.get (contents_of c.self.inside).state.queues c.in-Some.row.now.job.queue)

pub fold_queue-requires-clause-order : goal.fold_queue-requires-clause-order
fold_queue-requires-clause-order c = c.self.invariant.legal.in_order c.in-Some.row.now.job.queue c.index_mut.result.now
    (get_queue c.self.inside.queues.items c.self.invariant.queues c.in-Some.row.now.job.queue c.in-Ok.queue_at c.index_mut.result.now (rw c.deref.ensures.value at c.in-Ok.ensures.found)
    ∙ ap Some (sym c.index_mut.ensures.value))

pub fold_queue-requires-clause-room : goal.fold_queue-requires-clause-room
fold_queue-requires-clause-room c = subst (λ v. HasRoom v.room.spare c.args.effects.items) (sym c.self.view_is) c.requires.room

pub invariant_of-self : goal.invariant_of-self
invariant_of-self c = change_queue_ordered c.self.inside c.self.invariant c.in-Some.row.now.job.queue c.in-Ok.queue_at c.index_mut.result.now c.fold_queue.new.row c.fold_queue.new.spare
    (rw c.deref.ensures.value at c.in-Ok.ensures.found) (queue_after c.args.effects.items) (λ x. refl)
    (c.fold_queue.ensures.row ∙ ap (queue_after c.args.effects.items) c.index_mut.ensures.value)
    (legal_change_queue (contents_of c.self.inside).state c.in-Some.row.now.job.queue (queue_after c.args.effects.items) (λ x. refl) (c.queues_stay_in_order.ensures.stays c.args.effects.items) _ refl c.self.invariant.legal)

pub returns-clause-state : goal.returns-clause-state
returns-clause-state c =
    let there : job_at (contents_of c.self.inside).state c.args.job ≡ Some (job_of c.in-Some.row.now) =
    row_there c.self.inside.jobs c.self.invariant.own c.self.invariant.jobs c.args.job c.in-Some.row.now c.in-Some.ensures.found in
    change_queue_state c.self.inside c.self.invariant c.in-Some.row.now.job.queue c.in-Ok.queue_at c.index_mut.result.now c.fold_queue.new.row c.fold_queue.new.spare
    (rw c.deref.ensures.value at c.in-Ok.ensures.found) (queue_after c.args.effects.items) (λ x. refl)
    (c.fold_queue.ensures.row ∙ ap (queue_after c.args.effects.items) c.index_mut.ensures.value)
    ∙ sym (ap (change_own_queue (contents_of c.self.inside).state (queue_after c.args.effects.items)) there)
    ∙ ap (λ v. change_queue_of v.state c.args.job (queue_after c.args.effects.items)) c.self.view_is

pub returns-clause-room : goal.returns-clause-room
returns-clause-room c = room_seen c.self.view_is
    (change_queue_room c.self.inside c.self.invariant c.in-Some.row.now.job.queue c.in-Ok.queue_at c.index_mut.result.now c.fold_queue.new.row c.fold_queue.new.spare
    (rw c.deref.ensures.value at c.in-Ok.ensures.found) (queue_after c.args.effects.items) (λ x. refl)
    (c.fold_queue.ensures.row ∙ ap (queue_after c.args.effects.items) c.index_mut.ensures.value)
    c.fold_queue.ensures.reasons c.fold_queue.ensures.attributes)

pub returns-clause-places : goal.returns-clause-places
returns-clause-places c = λ j. ap (λ (v : Contents). places_at v j) c.self.view_is
