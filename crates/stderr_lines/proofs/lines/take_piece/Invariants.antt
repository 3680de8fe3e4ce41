-- The bytes so far are taken.
use Rattle.std.proofs.Common.{take}
use Rattle.stderr_lines.specs.CurrentLine.{IsHeld}
use Rattle.stderr_lines.specs.PendingEffects.{Takes}
use Rattle.stderr_lines.proofs.LineLaws.{is}
use Rattle.stderr_lines.proofs.lines.take_piece.Given as goal

abbrev pub invariant-loop-b : goal.invariant-loop-b
invariant-loop-b l = record { held : IsHeld l.line.items; takes : Takes (is l.initial.line.items l.initial.tally) (take l.b-index l.piece) (is l.line.items l.tally) }
