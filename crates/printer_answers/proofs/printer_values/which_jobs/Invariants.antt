-- The keywords of the choices so far.
use Rattle.std.proofs.Common.{◌≡◌, map, take}
use Rattle.ipp_answers.specs.AnswerValues.{keyword_value}
use Rattle.ipp_answers.specs.WhichJobs.{choice_word}
use Rattle.printer_answers.proofs.printer_values.which_jobs.Given as goal

abbrev pub invariant-loop-choice : goal.invariant-loop-choice
invariant-loop-choice l = l.values ≡ map (λ choice. keyword_value (choice_word choice)) (take l.choice-index l.all)
