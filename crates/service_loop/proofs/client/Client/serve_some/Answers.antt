-- The actions so far, and then those of one step.
use Rattle.std.proofs.Common.{ℕ, ◌∙◌, nat_lt, ap, refl, sym, inl, inr, arith}
use Rattle.service_rules.specs.Bounds.{most_unread}
use Rattle.service_loop.specs.AdmissionViews.{unread}
use Rattle.service_loop.specs.declared.client.Turn.{Turn}
use Rattle.service_loop.proofs.CallLaws.{within_none, within_then}
use Rattle.service_loop.proofs.ClientStepLaws.{goes_none, step_none, stepped_then}
use Rattle.service_loop.proofs.ListenerCounts.{listens_then}
use Rattle.service_loop.proofs.ProgressLaws.{not_less}
use Rattle.service_loop.proofs.client.Client.serve_some.Goals as goal
use Rattle.service_loop.proofs.client.Client.serve_some.Goals.{in-Served, in-Goes}

pub loop-init : goal.loop-init
loop-init g c = record { counted = omega arith; calls = within_none _ _ _; stepped = step_none _ _ _ _ _ (goes_none _ _) refl; marked = λ marked. marked; more = refl; disconnect = refl; listening = refl; listens = λ is. inl is }

pub returns-in-Lost-clause-client_step : goal.returns-in-Lost-clause-client_step
returns-in-Lost-clause-client_step g c = stepped_then _ _ _ _ _ _ _ _ c.loop.invariant.stepped c.in_ok-step.ensures.client_step

pub loop-preserved : goal.loop-preserved
loop-preserved g c = record {
  counted = elim c.match-branch-2.branch [ in-Served w ↦ omega arith | in-Goes w ↦ omega arith ];
  calls = within_then _ _ _ _ _ _ _ c.loop.invariant.calls c.in_ok-step.ensures.calls;
  stepped = stepped_then _ _ _ _ _ _ _ _ c.loop.invariant.stepped c.in_ok-step.ensures.client_step;
  marked = λ marked. c.in_ok-step.ensures.marked (c.loop.invariant.marked marked);
  more = ap (λ (t : Turn). t.more) c.in_ok-step.ensures.turn ∙ c.loop.invariant.more;
  disconnect = ap (λ (t : Turn). t.disconnect) c.in_ok-step.ensures.turn ∙ c.loop.invariant.disconnect;
  listening = ap (λ (t : Turn). t.listening) c.in_ok-step.ensures.turn ∙ c.loop.invariant.listening;
  listens = listens_then c.args.turn.now.listening c.loop.turn.listening c.args.self.now c.loop.self c.step.new.self c.loop.invariant.listening c.loop.invariant.listens c.in_ok-step.ensures.listens;
}

pub returns-in-Lost-clause-listens : goal.returns-in-Lost-clause-listens
returns-in-Lost-clause-listens g c = listens_then c.args.turn.now.listening c.loop.turn.listening c.args.self.now c.loop.self c.step.new.self c.loop.invariant.listening c.loop.invariant.listens c.in_ok-step.ensures.listens

pub returns-after-loop-clause-listens : goal.returns-after-loop-clause-listens
returns-after-loop-clause-listens g c = c.loop.invariant.listens

pub returns-then-not-is_served_on-clause-listens : goal.returns-then-not-is_served_on-clause-listens
returns-then-not-is_served_on-clause-listens g c = c.loop.invariant.listens

pub returns-in-Rests-clause-listens : goal.returns-in-Rests-clause-listens
returns-in-Rests-clause-listens g c = listens_then c.args.turn.now.listening c.loop.turn.listening c.args.self.now c.loop.self c.step.new.self c.loop.invariant.listening c.loop.invariant.listens c.in_ok-step.ensures.listens

pub returns-in-Rests-clause-rests : goal.returns-in-Rests-clause-rests
returns-in-Rests-clause-rests g c = λ there none. inl (c.in_ok-step.ensures.rests c.in-Rests.is)

pub returns-then-not-is_served_on-clause-rests : goal.returns-then-not-is_served_on-clause-rests
returns-then-not-is_served_on-clause-rests g c = λ there none. inr (not_less (unread c.loop.self) (ap (λ (n : ℕ). nat_lt n most_unread) (sym c.unread-then-not-is_served_on.ensures) ∙ none))

pub returns-in-Rests-clause-client_step : goal.returns-in-Rests-clause-client_step
returns-in-Rests-clause-client_step g c = stepped_then _ _ _ _ _ _ _ _ c.loop.invariant.stepped c.in_ok-step.ensures.client_step

pub returns-in_err-step-clause-calls : goal.returns-in_err-step-clause-calls
returns-in_err-step-clause-calls g c = within_then _ _ _ _ _ _ _ c.loop.invariant.calls c.step.ensures.calls

pub returns-in-Lost-clause-calls : goal.returns-in-Lost-clause-calls
returns-in-Lost-clause-calls g c = within_then _ _ _ _ _ _ _ c.loop.invariant.calls c.step.ensures.calls

pub returns-in-Rests-clause-calls : goal.returns-in-Rests-clause-calls
returns-in-Rests-clause-calls g c = within_then _ _ _ _ _ _ _ c.loop.invariant.calls c.step.ensures.calls
