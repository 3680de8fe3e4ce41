-- The values of the texts so far.
use Rattle.std.proofs.Common.{◌≡◌, map, take}
use Rattle.ipp_answers.specs.AnswerValues.{string_value}
use Rattle.ipp_answers.proofs.values.strings.Given as goal

abbrev pub invariant-loop-text : goal.invariant-loop-text
invariant-loop-text l = l.values ≡ map (λ text. string_value l.syntax text.now) (take l.text-index l.texts)
