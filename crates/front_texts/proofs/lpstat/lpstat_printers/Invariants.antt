-- The lines of the queues so far.
use Rattle.std.proofs.Common.{◌≡◌, take}
use Rattle.front_texts.specs.Lpstat.{printers_text}
use Rattle.front_texts.proofs.lpstat.lpstat_printers.Given as goal

abbrev pub invariant-loop-queue : goal.invariant-loop-queue
invariant-loop-queue l = l.text.items ≡ printers_text l.more (take l.queue-index l.queues) l.jobs
