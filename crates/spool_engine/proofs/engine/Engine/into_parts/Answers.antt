-- The parts of the inner engine, over an equal run state.
use Rattle.std.proofs.Common.{◌≡◌, Some, subst}
use Rattle.child_pipeline.specs.StageSlots.{Slots}
use Rattle.child_pipeline.specs.ChildTraces.{ChildTrace}
use Rattle.child_pipeline.specs.Tickets.{HasTickets}
use Rattle.print_rounds.specs.Finished.{HasNoneRunning}
use Rattle.print_rounds.specs.RoundTicks.{IsFinishedOff}
use Rattle.print_rounds.specs.RunStates.{run_state}
use Rattle.spool_engine.specs.EngineRounds.{IsSettled}
use Rattle.spool_engine.specs.EngineRuns.{Engine}
use Rattle.spool_engine.proofs.engine.Engine.into_parts.Goals as goal

pub returns-clause-children : goal.returns-clause-children
returns-clause-children g c =
    subst (λ (e : Engine g.row.D.Denot). (slots : Slots) × IsSettled e.run_state (run_state c.into_parts.result.0 slots (g.C.Children.tells c.into_parts.result.1))) c.self.view_is c.into_parts.ensures.children

pub returns-clause-finished : goal.returns-clause-finished
returns-clause-finished g c =
    subst (λ (e : Engine g.row.D.Denot). (t : ChildTrace) → e.run_state.told ≡ Some t → HasTickets e.run_state.slots t → IsFinishedOff t (g.C.Children.tells c.into_parts.result.1)) c.self.view_is c.into_parts.ensures.finished

pub returns-clause-quiet : goal.returns-clause-quiet
returns-clause-quiet g c =
    subst (λ (e : Engine g.row.D.Denot). HasNoneRunning e.run_state.slots → g.C.Children.tells c.into_parts.result.1 ≡ e.run_state.told) c.self.view_is c.into_parts.ensures.quiet
