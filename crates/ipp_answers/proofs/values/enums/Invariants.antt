-- The values of the numbers so far.
use Rattle.std.proofs.Common.{◌≡◌, map, take}
use Rattle.ipp_answers.specs.AnswerValues.{enum_of}
use Rattle.ipp_answers.proofs.values.enums.Given as goal

abbrev pub invariant-loop-number : goal.invariant-loop-number
invariant-loop-number l = l.values ≡ map enum_of (take l.number-index l.numbers)
