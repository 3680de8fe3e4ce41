-- The sizes so far.
use Rattle.std.proofs.Common.{◌≡◌, take}
use Rattle.std.specs.List.{flat_map}
use Rattle.printer_answers.specs.PrinterMedia.{media_col}
use Rattle.printer_answers.proofs.described.media_cols.Given as goal

abbrev pub invariant-loop-size : goal.invariant-loop-size
invariant-loop-size l = l.values ≡ flat_map media_col (take l.size-index l.media)
