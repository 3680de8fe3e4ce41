-- The job still exists after the change of its queue.
use Rattle.std.proofs.Common.{IsSome, sym, ap, subst, ◌∙◌}
use Rattle.row_effects.specs.EffectFold.{queue_after}
use Rattle.row_effects.specs.Room.{HasRoom}
use Rattle.spool_types.specs.State.{State, job_at}
use Rattle.job_table.specs.Attempts.{with_pages}
use Rattle.job_table.specs.EventChanges.{change_job, change_queue_of}
use Rattle.job_table.proofs.Changes.{change_own_other}
use Rattle.job_table.proofs.Rooms.{no_more_then}
use Rattle.job_table.proofs.store.Store.fold_effects.Goals as goal

pub fold_into_queue-requires-clause-room : goal.fold_into_queue-requires-clause-room
fold_into_queue-requires-clause-room c = subst (λ r. HasRoom r c.args.effects.items) (sym c.fold_into_job.ensures.spare) c.requires.room

pub returns-clause-state : goal.returns-clause-state
returns-clause-state c =
    c.fold_into_queue.ensures.state
    ∙ ap (λ (s : State). change_queue_of s c.args.job (queue_after c.args.effects.items)) (
    c.fold_into_job.ensures.state ∙ ap (λ es. change_job c.args.self.now.state c.args.job (with_pages es)) c.deref.ensures.value)

pub returns-clause-there : goal.returns-clause-there
returns-clause-there c =
    subst (λ (s : State). IsSome (job_at s c.args.job)) (sym c.fold_into_queue.ensures.state)
    (subst IsSome (sym (change_own_other c.fold_into_job.new.self.state (queue_after c.args.effects.items) c.args.job (job_at c.fold_into_job.new.self.state c.args.job))) c.fold_into_job.ensures.there)

pub returns-clause-room : goal.returns-clause-room
returns-clause-room c = no_more_then _ _ _ c.fold_into_job.ensures.room c.fold_into_queue.ensures.room

pub returns-clause-places : goal.returns-clause-places
returns-clause-places c = λ j. c.fold_into_queue.ensures.places j ∙ c.fold_into_job.ensures.places j
