-- The resolutions so far.
use Rattle.std.proofs.Common.{◌≡◌, map, take}
use Rattle.ipp_answers.specs.AnswerValues.{dots}
use Rattle.printer_answers.proofs.described.resolutions.Given as goal

abbrev pub invariant-loop-number : goal.invariant-loop-number
invariant-loop-number l = l.values ≡ map dots (take l.number-index l.numbers)
