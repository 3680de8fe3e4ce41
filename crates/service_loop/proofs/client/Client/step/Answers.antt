-- The end that was reported, and then the next request.
use Rattle.std.proofs.Common.{ap, ◌∙◌}
use Rattle.service_loop.specs.ClientActions.{ClientStatus}
use Rattle.service_loop.proofs.ClientStepLaws.{stepped_then, step_answered, step_none}
use Rattle.service_loop.proofs.client.Client.step.Goals as goal

pub returns-in_ok-answer-in-Asked-clause-client_step : goal.returns-in_ok-answer-in-Asked-clause-client_step
returns-in_ok-answer-in-Asked-clause-client_step g c =
    let asked = (rw c.in-Asked.is at c.in_ok-ask.ensures.next) in
    stepped_then _ _ _ _ _ _ _ _ c.in_ok-has_reported_end.ensures.client_step
    (stepped_then _ _ _ _ _ _ _ _ (step_answered _ _ _ _ _ _ _ _ asked c.in_ok-ask.ensures.status c.in_ok-answer-in-Asked.ensures.done)
    (step_none _ _ _ _ _ c.note_heard.ensures.goes c.note_heard.ensures.status))

pub returns-in-Again-clause-client_step : goal.returns-in-Again-clause-client_step
returns-in-Again-clause-client_step g c =
    let asked = (rw c.in-Again.is at c.in_ok-ask.ensures.next) in
    stepped_then _ _ _ _ _ _ _ _ c.in_ok-has_reported_end.ensures.client_step (step_none _ _ _ _ _ asked c.in_ok-ask.ensures.status)

pub returns-in_ok-read_more-in-Text-clause-client_step : goal.returns-in_ok-read_more-in-Text-clause-client_step
returns-in_ok-read_more-in-Text-clause-client_step g c =
    let asked = (rw c.in-Text.is at c.in_ok-ask.ensures.next) in
    stepped_then _ _ _ _ _ _ _ _ c.in_ok-has_reported_end.ensures.client_step
    (stepped_then _ _ _ _ _ _ _ _ (step_none _ _ _ _ _ asked c.in_ok-ask.ensures.status) (step_none _ _ _ _ _ c.in_ok-read_more-in-Text.ensures.goes c.in_ok-read_more-in-Text.ensures.status))

-- It waits for no job then.
pub answer-requires : goal.answer-requires
answer-requires g c = ap (λ (s : ClientStatus). s.waits) c.in_ok-ask.ensures.status ∙ c.in_ok-has_reported_end.ensures.waits c.if-not-branch.false
