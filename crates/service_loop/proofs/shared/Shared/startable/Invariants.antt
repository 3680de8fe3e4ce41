-- Of the queues so far, those of which a stage can be started are counted.
use Rattle.std.proofs.Common.{◌≡◌, ◌≤◌, take}
use Rattle.std.specs.List.{count_by}
use Rattle.service_loop.specs.StagesAtRest.{can_start_in}
use Rattle.service_loop.proofs.shared.Shared.startable.Given as goal

abbrev pub invariant-loop-queue : goal.invariant-loop-queue
invariant-loop-queue g l =
    (l.count ≤ l.queue-index) × (l.count ≡ count_by (can_start_in l.self.engine.run_state.slots l.self.engine.run_state.spool.state) (take l.queue-index l.queue-items))
