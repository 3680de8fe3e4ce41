-- The staged events become durable, and its connection takes replies.
use Rattle.std.proofs.Common.{ℕ, false, nat_le, ap, sym, ◌∙◌}
use Rattle.service_rules.specs.Bounds.{most_unread}
use Rattle.service_loop.specs.Progress.{goes_further, has_ended}
use Rattle.service_loop.proofs.ClientStepLaws.{step_given, step_settled, stepped_then}
use Rattle.service_loop.proofs.ProgressLaws.{has_none_still}
use Rattle.service_loop.proofs.client.Client.send.Goals as goal

pub returns-then-not-settle-clause-client_step : goal.returns-then-not-settle-clause-client_step
returns-then-not-settle-clause-client_step g c = step_settled _ _ _ _ _ c.settle.ensures.mime c.settle.ensures.place c.settle.ensures.settles

pub returns-then-not-give-clause-client_step : goal.returns-then-not-give-clause-client_step
returns-then-not-give-clause-client_step g c =
    stepped_then _ _ _ _ _ _ _ _ (step_settled _ _ _ _ _ c.settle.ensures.mime c.settle.ensures.place c.settle.ensures.settles)
    (step_given _ _ _ _ _ (c.settle.ensures.durable c.if-not-settle.false) c.give.ensures.delivers c.give.ensures.status)

pub returns-clause-client_step : goal.returns-clause-client_step
returns-clause-client_step g c =
    stepped_then _ _ _ _ _ _ _ _ (step_settled _ _ _ _ _ c.settle.ensures.mime c.settle.ensures.place c.settle.ensures.settles)
    (step_given _ _ _ _ _ (c.settle.ensures.durable c.if-not-settle.false) c.give.ensures.delivers c.give.ensures.status)

pub returns-clause-rests : goal.returns-clause-rests
returns-clause-rests g c = λ stays none.
    has_none_still c.args.self.now c.give.new.self (has_ended c.give.new.self false) c.give.ensures.kept
    (ap (λ (n : ℕ). goes_further (nat_le most_unread n) c.give.new.self) (sym c.unread-was_backlogged.ensures) ∙ sym c.goes_further.ensures ∙ none)
