-- The staged events become durable, or nothing is done.
use Rattle.std.proofs.Common.{◌≡◌, ℕ, false, refl, arith}
use Rattle.std.proofs.lemmas.Bool.Decides.{nat_tests}
use Rattle.service_loop.proofs.CallLaws.{within_none}
use Rattle.service_loop.proofs.ClientStepLaws.{goes_none, step_none, step_settled}
use Rattle.service_loop.specs.StagedRoom.{has_many_staged}
use Rattle.service_loop.proofs.client.Client.settle_many.Goals as goal

-- Nothing is staged since the room that a settle noted.
few_of : (before room : ℕ) → before ≡ room → has_many_staged before room ≡ false
few_of before room same = grind (arith, nat_tests, same)

pub returns-then-has_many_staged-clause-few : goal.returns-then-has_many_staged-clause-few
returns-then-has_many_staged-clause-few g c = few_of _ _ c.settle.ensures.room

pub returns-then-has_many_staged-clause-client_step : goal.returns-then-has_many_staged-clause-client_step
returns-then-has_many_staged-clause-client_step g c = step_settled _ _ _ _ _ c.settle.ensures.mime c.settle.ensures.place c.settle.ensures.settles

pub returns-else-has_many_staged-clause-client_step : goal.returns-else-has_many_staged-clause-client_step
returns-else-has_many_staged-clause-client_step g c = step_none _ _ _ _ _ (goes_none _ _) refl

pub returns-else-has_many_staged-clause-calls : goal.returns-else-has_many_staged-clause-calls
returns-else-has_many_staged-clause-calls g c = within_none _ _ _
