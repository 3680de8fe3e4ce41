-- None of the bytes so far is the byte to split at.
use Rattle.std.proofs.Common.{◌≡◌, take, drop}
use Rattle.line_words.specs.Quotes.{with_bytes}
use Rattle.stderr_lines.specs.Cuts.{cut_at}
use Rattle.stderr_lines.proofs.cuts.cut_at.Given as goal

abbrev pub invariant-loop-i : goal.invariant-loop-i
invariant-loop-i l = with_bytes (take l.i l.bytes) (cut_at l.c (drop l.i l.bytes)) ≡ cut_at l.c l.bytes
