-- The text so far, and whether a backslash is directly before.
use Rattle.std.proofs.Common.{◌≡◌, false, drop}
use Rattle.line_words.specs.Quotes.{quoted, with_bytes}
use Rattle.line_words.proofs.quotes.read_escaped.Given as goal

abbrev pub invariant-loop-i : goal.invariant-loop-i
invariant-loop-i l = with_bytes l.text.items (quoted l.escaped (drop l.i l.line)) ≡ with_bytes l.seen (quoted false l.line)
