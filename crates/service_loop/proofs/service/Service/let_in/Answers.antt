-- One more client was admitted.
use Rattle.std.proofs.Common.{refl, ◌∙◌}
use Rattle.service_loop.proofs.HistoryLaws.{history_none, history_then}
use Rattle.service_loop.proofs.service.Service.let_in.Goals as goal

pub loop-init : goal.loop-init
loop-init g c = record { engine = refl; most = refl; history = history_none _ _ _ _ }

pub loop-preserved : goal.loop-preserved
loop-preserved g c = record {
  engine = c.let_one_in.ensures.engine ∙ c.loop.invariant.engine;
  most = c.let_one_in.ensures.most ∙ c.loop.invariant.most;
  history = history_then _ _ _ _ _ _ _ _ c.loop.invariant.history c.let_one_in.ensures.history;
}

pub returns-in_err-let_one_in-clause-engine : goal.returns-in_err-let_one_in-clause-engine
returns-in_err-let_one_in-clause-engine g c = c.let_one_in.ensures.engine ∙ c.loop.invariant.engine

pub returns-in_err-let_one_in-clause-most : goal.returns-in_err-let_one_in-clause-most
returns-in_err-let_one_in-clause-most g c = c.let_one_in.ensures.most ∙ c.loop.invariant.most

pub returns-in_err-let_one_in-clause-history : goal.returns-in_err-let_one_in-clause-history
returns-in_err-let_one_in-clause-history g c = history_then _ _ _ _ _ _ _ _ c.loop.invariant.history c.let_one_in.ensures.history

pub returns-then-not-branch-clause-engine : goal.returns-then-not-branch-clause-engine
returns-then-not-branch-clause-engine g c = c.let_one_in.ensures.engine ∙ c.loop.invariant.engine

pub returns-then-not-branch-clause-most : goal.returns-then-not-branch-clause-most
returns-then-not-branch-clause-most g c = c.let_one_in.ensures.most ∙ c.loop.invariant.most

pub returns-then-not-branch-clause-history : goal.returns-then-not-branch-clause-history
returns-then-not-branch-clause-history g c = history_then _ _ _ _ _ _ _ _ c.loop.invariant.history c.let_one_in.ensures.history

pub returns-clause-engine : goal.returns-clause-engine
returns-clause-engine g c = c.loop.invariant.engine

pub returns-clause-most : goal.returns-clause-most
returns-clause-most g c = c.loop.invariant.most

pub returns-clause-history : goal.returns-clause-history
returns-clause-history g c = c.loop.invariant.history
