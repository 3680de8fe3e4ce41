-- The bytes so far are shown.
use Rattle.std.proofs.Common.{◌≡◌, ◌++◌, map, take, drop}
use Rattle.stderr_lines.specs.LineEffects.{shown_byte}
use Rattle.stderr_lines.proofs.line.show.Given as goal

abbrev pub invariant-loop-i : goal.invariant-loop-i
invariant-loop-i l = l.bytes ≡ map shown_byte (take l.i l.initial.bytes) ++ drop l.i l.initial.bytes
