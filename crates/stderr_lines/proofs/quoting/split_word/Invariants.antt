-- The bytes so far belong to the first word.
use Rattle.std.proofs.Common.{◌≡◌, take, drop}
use Rattle.line_words.specs.Quoting.{pieces}
use Rattle.line_words.specs.declared.quoting.Quoting.TheVariants.{Bare}
use Rattle.stderr_lines.proofs.PieceLaws.{onto_front}
use Rattle.stderr_lines.proofs.quoting.split_word.Given as goal

abbrev pub invariant-loop-i : goal.invariant-loop-i
invariant-loop-i l = onto_front (take l.i l.text) (pieces l.quote_state (drop l.i l.text)) ≡ pieces Bare l.text
