-- Many staged events become durable, and requests are served.
use Rattle.std.proofs.Common.{refl}
use Rattle.service_loop.proofs.CallLaws.{within_none, within_then}
use Rattle.service_loop.proofs.ClientStepLaws.{goes_none, step_none, stepped_then}
use Rattle.service_loop.proofs.client.Client.try_serve.Goals as goal

pub returns-then-has_left_waiting-clause-client_step : goal.returns-then-has_left_waiting-clause-client_step
returns-then-has_left_waiting-clause-client_step g c = step_none _ _ _ _ _ (goes_none _ _) refl

pub returns-then-has_left_waiting-clause-calls : goal.returns-then-has_left_waiting-clause-calls
returns-then-has_left_waiting-clause-calls g c = within_none _ _ _

pub returns-in_err-serve_some-clause-calls : goal.returns-in_err-serve_some-clause-calls
returns-in_err-serve_some-clause-calls g c = within_then _ _ _ _ _ _ _ c.settle_many.ensures.calls c.serve_some.ensures.calls

pub returns-then-not-branch-clause-client_step : goal.returns-then-not-branch-clause-client_step
returns-then-not-branch-clause-client_step g c = stepped_then _ _ _ _ _ _ _ _ c.settle_many.ensures.client_step c.in_ok-serve_some.ensures.client_step

pub returns-then-not-branch-clause-calls : goal.returns-then-not-branch-clause-calls
returns-then-not-branch-clause-calls g c = within_then _ _ _ _ _ _ _ c.settle_many.ensures.calls c.serve_some.ensures.calls

pub returns-clause-client_step : goal.returns-clause-client_step
returns-clause-client_step g c = stepped_then _ _ _ _ _ _ _ _ c.settle_many.ensures.client_step c.in_ok-serve_some.ensures.client_step

pub returns-clause-calls : goal.returns-clause-calls
returns-clause-calls g c = within_then _ _ _ _ _ _ _ c.settle_many.ensures.calls c.serve_some.ensures.calls

pub returns-clause-rests : goal.returns-clause-rests
returns-clause-rests g c = λ there none. c.in_ok-serve_some.ensures.rests c.if-not-branch.false none
