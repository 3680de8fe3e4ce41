-- Whether one of the queues so far was requested.
use Rattle.std.proofs.Common.{◌≡◌, take}
use Rattle.std.specs.List.{list_any}
use Rattle.spool_front.specs.CupsForms.{is_meant}
use Rattle.spool_front.proofs.cups_forms.print_meant.Given as goal

abbrev pub invariant-loop-queue : goal.invariant-loop-queue
invariant-loop-queue l = l.found ≡ list_any (is_meant l.name) (take l.queue-index l.queues)
