use Rattle.std.proofs.Common.{◌≡◌, length, map}
use Rattle.command_lines.specs.CommandWords.{words_of}
use Rattle.line_words.specs.WordFields.{bytes_of}
use Rattle.command_lines.proofs.WordLaws.{with_words}
use Rattle.command_lines.proofs.words.words_of.Given as goal

abbrev pub invariant-loop-words : goal.invariant-loop-words
invariant-loop-words l = with_words (map bytes_of l.words.items) (words_of l.rest) ≡ words_of l.line

abbrev pub decreases-loop-words : goal.decreases-loop-words
decreases-loop-words l = length l.rest
