-- A round of the inner engine, over an equal run state.
use Rattle.std.proofs.Common.{List, ℕ, subst}
use Rattle.spool_types.specs.declared.event.Event.{Event}
use Rattle.print_rounds.specs.RunStates.{RunState}
use Rattle.spool_engine.specs.EventSteps.{setting}
use Rattle.spool_engine.specs.EngineRounds.{IsRan}
use Rattle.spool_engine.specs.EngineRuns.{Engine}
use Rattle.spool_engine.proofs.engine.Engine.round.Goals as goal

pub returns-clause-round : goal.returns-clause-round
returns-clause-round g c =
    subst (λ (e : Engine g.row.D.Denot). (settled : RunState g.row.D.Denot) × (tried : List Event) × (documents : ℕ → List ℕ) × IsRan (setting g.D.Disk.device e.mime e.place) e.run_state
    (record { settled = settled; next = c.round.new.self.run_state; result = c.round.result; tried = tried; documents = documents })) c.self.view_is c.round.ensures.round
