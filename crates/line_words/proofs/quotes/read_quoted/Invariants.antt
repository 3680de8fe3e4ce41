-- The bytes so far belong to the text.
use Rattle.std.proofs.Common.{◌≡◌, false, take, drop}
use Rattle.line_words.specs.Quotes.{quoted, with_bytes}
use Rattle.line_words.proofs.quotes.read_quoted.Given as goal

abbrev pub invariant-loop-i : goal.invariant-loop-i
invariant-loop-i l = with_bytes (take l.i l.line) (quoted false (drop l.i l.line)) ≡ quoted false l.line
