-- The bytes so far precede the comment.
use Rattle.std.proofs.Common.{◌≡◌, true, ◌++◌, take, drop}
use Rattle.ipp_printers.specs.PrinterLines.{uncommented}
use Rattle.ipp_printers.proofs.line.uncommented.Given as goal

abbrev pub invariant-loop-i : goal.invariant-loop-i
invariant-loop-i l = take l.i l.line ++ uncommented l.fresh (drop l.i l.line) ≡ uncommented true l.line
