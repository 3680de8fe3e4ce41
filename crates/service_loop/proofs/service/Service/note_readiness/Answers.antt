-- One more connection was ready.
use Rattle.std.proofs.Common.{refl, ◌∙◌}
use Rattle.service_loop.proofs.HistoryLaws.{history_none, history_then}
use Rattle.service_loop.proofs.service.Service.note_readiness.Goals as goal

pub loop-init : goal.loop-init
loop-init g c = record { engine = refl; most = refl; history = history_none _ _ _ _ }

pub loop-preserved : goal.loop-preserved
loop-preserved g c = record {
  engine = c.note_ready.ensures.engine ∙ c.loop.invariant.engine;
  most = c.note_ready.ensures.most ∙ c.loop.invariant.most;
  history = history_then _ _ _ _ _ _ _ _ c.loop.invariant.history c.note_ready.ensures.history;
}

pub returns-in_default-clause-engine : goal.returns-in_default-clause-engine
returns-in_default-clause-engine g c = c.loop.invariant.engine

pub returns-in_default-clause-most : goal.returns-in_default-clause-most
returns-in_default-clause-most g c = c.loop.invariant.most

pub returns-in_default-clause-history : goal.returns-in_default-clause-history
returns-in_default-clause-history g c = c.loop.invariant.history

pub returns-clause-engine : goal.returns-clause-engine
returns-clause-engine g c = c.loop.invariant.engine

pub returns-clause-most : goal.returns-clause-most
returns-clause-most g c = c.loop.invariant.most

pub returns-clause-history : goal.returns-clause-history
returns-clause-history g c = c.loop.invariant.history
