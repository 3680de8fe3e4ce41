-- The bytes so far belong to the first word.
use Rattle.std.proofs.Common.{◌≡◌, take, drop}
use Rattle.std.specs.List.{slice_split}
use Rattle.stderr_lines.specs.ReasonLines.{is_separator}
use Rattle.stderr_lines.proofs.PieceLaws.{onto_front}
use Rattle.stderr_lines.proofs.reasons.split_word.Given as goal

abbrev pub invariant-loop-i : goal.invariant-loop-i
invariant-loop-i l = onto_front (take l.i l.text) (slice_split is_separator (drop l.i l.text)) ≡ slice_split is_separator l.text
