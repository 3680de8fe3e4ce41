-- Each clause follows from the invariant at the end of a run.
use Rattle.ipp_submission.proofs.JobLaws.{accepted_each, end_good, once_each, unclosed_before, whole_after}
use Rattle.ipp_submission.proofs.laws.submits_once.Goals as goal

pub returns-clause-once : goal.returns-clause-once
returns-clause-once c pieces holds given prints events = once_each c.acts_once.ensures.at_most_once _ (end_good pieces holds given prints events)

pub returns-clause-accepted : goal.returns-clause-accepted
returns-clause-accepted c pieces holds given prints events is =
    accepted_each c.acts_once.ensures.accepted _ (end_good pieces holds given prints events) is

pub returns-clause-unclosed : goal.returns-clause-unclosed
returns-clause-unclosed c pieces holds given prints events is = unclosed_before _ (end_good pieces holds given prints events) is

pub returns-clause-whole : goal.returns-clause-whole
returns-clause-whole c pieces holds given prints events is = whole_after _ (end_good pieces holds given prints events) is
