-- The names so far.
use Rattle.std.proofs.Common.{◌≡◌, take}
use Rattle.std.specs.List.{flat_map}
use Rattle.front_texts.specs.Lpstat.{name_line}
use Rattle.front_texts.proofs.lpstat.lpstat_names.Given as goal

abbrev pub invariant-loop-queue : goal.invariant-loop-queue
invariant-loop-queue l = l.text.items ≡ flat_map name_line (take l.queue-index l.queues)
