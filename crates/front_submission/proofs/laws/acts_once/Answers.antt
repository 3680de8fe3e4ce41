-- Each clause follows from the invariant at the end of a run.
use Rattle.std.proofs.Common.{◌≡◌, ℕ, Bool, List, subst}
use Rattle.front_submission.specs.declared.step.End.{End}
use Rattle.front_submission.specs.declared.step.Step.TheVariants.{Ended}
use Rattle.front_submission.specs.SubmissionRuns.{Event, ArePieces, end_of, joined}
use Rattle.front_submission.proofs.Keeping.{Keeps, KeepsEnd, end_keeps, closes_once, accepted_once, unprintable_once, refused_never}
use Rattle.front_submission.proofs.Alone.{none_behind}
use Rattle.front_submission.proofs.laws.acts_once.Goals as goal

ended_keeps : (pieces : List (List ℕ)) (holds : Bool) (given : ℕ) (prints : Bool) (events : List Event) (end : End) → ArePieces pieces →
    (end_of pieces holds given prints events).step ≡ Ended end → KeepsEnd (joined pieces) (end_of pieces holds given prints events).service end
ended_keeps pieces holds given prints events end are ended =
    subst (Keeps (joined pieces) (end_of pieces holds given prints events).piece (end_of pieces holds given prints events).rest
    (end_of pieces holds given prints events).service) ended
    (end_keeps pieces holds given prints events are)

pub returns-clause-at_most_once : goal.returns-clause-at_most_once
returns-clause-at_most_once c pieces holds given prints events are =
    closes_once (joined pieces) (end_of pieces holds given prints events).piece (end_of pieces holds given prints events).rest (end_of pieces holds given prints events).service
    (end_of pieces holds given prints events).step (end_keeps pieces holds given prints events are)

pub returns-clause-accepted : goal.returns-clause-accepted
returns-clause-accepted c pieces holds given prints events end are ended status =
    accepted_once (joined pieces) (end_of pieces holds given prints events).service end (ended_keeps pieces holds given prints events end are ended) status

pub returns-clause-unprintable : goal.returns-clause-unprintable
returns-clause-unprintable c pieces holds given prints events end are ended status =
    unprintable_once (joined pieces) (end_of pieces holds given prints events).service end (ended_keeps pieces holds given prints events end are ended) status

pub returns-clause-refused : goal.returns-clause-refused
returns-clause-refused c pieces holds given prints events end are ended status =
    refused_never (joined pieces) (end_of pieces holds given prints events).service end (ended_keeps pieces holds given prints events end are ended) status

pub returns-clause-alone : goal.returns-clause-alone
returns-clause-alone c pieces holds given prints events end ended either = none_behind pieces holds given prints events end ended either
