-- The meaning of a line in memory.
use Rattle.std.specs.Prelude.{ℕ, List}
use Rattle.mime_lines.specs.declared.lines.LineText.{LineText}
use Rattle.mime_lines.specs.declared.lines.LineText.TheVariants.{Lent, Joined}
use Rattle.mime_lines.specs.declared.lines.JoinedLine.{JoinedLine}
use Rattle.mime_lines.specs.JoinedLines.{Line}

abbrev pub text_of : LineText → List ℕ
text_of (Lent bytes) = bytes.now
text_of (Joined bytes) = bytes.items

abbrev pub line_of : JoinedLine → Line
line_of line = record { number = line.number; text = text_of line.text }
