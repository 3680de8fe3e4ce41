-- No queue so far has a stage whose end may lead to a retry.
use Rattle.std.proofs.Common.{◌≡◌, false, take}
use Rattle.std.specs.List.{list_any}
use Rattle.service_loop.specs.RetryClocks.{may_retry_in}
use Rattle.service_loop.proofs.shared.Shared.may_retry.Given as goal

abbrev pub invariant-loop-queue : goal.invariant-loop-queue
invariant-loop-queue g l = list_any (may_retry_in l.self.engine.run_state.spool.state) (take l.queue-index l.queue-items) ≡ false
