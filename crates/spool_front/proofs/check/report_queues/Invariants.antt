-- Whether all of the queues so far can print.
use Rattle.std.proofs.Common.{◌≡◌, take}
use Rattle.std.specs.List.{list_all}
use Rattle.spool_front.specs.Checks.{prints}
use Rattle.spool_front.proofs.check.report_queues.Given as goal

abbrev pub invariant-loop-queue : goal.invariant-loop-queue
invariant-loop-queue l = l.all ≡ list_all (prints l.chains) (take l.queue-index l.queues)
