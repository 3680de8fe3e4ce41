-- The word and the rest after the bytes so far.
use Rattle.std.proofs.Common.{◌≡◌, ◌++◌, take, drop}
use Rattle.line_words.specs.Blanks.{word_here, behind_word}
use Rattle.line_words.proofs.blanks.split_at_blank.Given as goal

abbrev pub invariant-loop-i : goal.invariant-loop-i
invariant-loop-i l = record { word : take l.i l.line ++ word_here (drop l.i l.line) ≡ word_here l.line; rest : behind_word (drop l.i l.line) ≡ behind_word l.line }
