-- The lines so far, and the lines that the rest of the text adds.
use Rattle.std.proofs.Common.{◌≡◌, ◌+◌, ◌≤◌, ◌++◌, length, map}
use Rattle.std.specs.Option.{option_map}
use Rattle.mime_lines.specs.JoinedLines.{lines_of, joined_from, joined_lines}
use Rattle.mime_lines.specs.LineFields.{line_of}
use Rattle.mime_lines.proofs.lines.joined_lines.Given as goal

abbrev pub invariant-loop-line : goal.invariant-loop-line
invariant-loop-line l = record { same : map line_of l.lines.items ++ joined_from (l.number + 1) (option_map line_of l.open) (lines_of l.rest) ≡ joined_lines l.text; short : l.number + length l.rest ≤ length l.text }

abbrev pub decreases-loop-line : goal.decreases-loop-line
decreases-loop-line l = length l.rest
