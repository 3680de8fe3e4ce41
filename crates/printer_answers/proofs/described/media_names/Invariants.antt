-- The names of the sizes so far.
use Rattle.std.proofs.Common.{◌≡◌, map, take}
use Rattle.printer_answers.specs.PrinterMedia.{media_name}
use Rattle.printer_answers.proofs.described.media_names.Given as goal

abbrev pub invariant-loop-size : goal.invariant-loop-size
invariant-loop-size l = l.values ≡ map media_name (take l.size-index l.media)
