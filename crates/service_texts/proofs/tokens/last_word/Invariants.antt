-- The bytes not yet read, with the last word so far.
use Rattle.std.proofs.Common.{◌≡◌, length}
use Rattle.service_texts.specs.SubmissionTokens.{last_word, last_word_from}
use Rattle.service_texts.proofs.tokens.last_word.Given as goal

abbrev pub invariant-loop-b : goal.invariant-loop-b
invariant-loop-b l = last_word_from l.word l.rest ≡ last_word l.text

abbrev pub decreases-loop-b : goal.decreases-loop-b
decreases-loop-b l = length l.rest
