-- The parts of the printer, over an equal run state.
use Rattle.std.proofs.Common.{ap, subst, ◌∙◌}
use Rattle.child_pipeline.specs.StageSlots.{Slots}
use Rattle.print_rounds.specs.RunStates.{RunState, run_state}
use Rattle.spool_engine.specs.EngineRounds.{IsSettled}
use Rattle.spool_engine.specs.EngineRuns.{Engine}
use Rattle.spool_engine.proofs.staging.StagingEngine.into_parts.Goals as goal

pub returns-clause-spool : goal.returns-clause-spool
returns-clause-spool g c = c.into_parts.ensures.1.spool ∙ ap (λ (e : Engine g.row.D.Denot). e.run_state.spool) c.self.view_is

pub returns-clause-children : goal.returns-clause-children
returns-clause-children g c =
    let tells = g.C.Children.tells c.into_parts.result.1 in
    subst (λ (e : Engine g.row.D.Denot). (slots : Slots) × IsSettled e.run_state (run_state c.into_parts.result.0 slots tells)) c.self.view_is c.into_parts.ensures

pub returns-clause-finished : goal.returns-clause-finished
returns-clause-finished g c = λ t tells has.
    let settles = subst (λ (e : Engine g.row.D.Denot). IsSettled e.run_state (run_state c.into_parts.result.0 c.into_parts.ensures.0 (g.C.Children.tells c.into_parts.result.1))) c.self.view_is c.into_parts.ensures.1 in
    settles.finished t tells has

pub returns-clause-quiet : goal.returns-clause-quiet
returns-clause-quiet g c = λ none.
    let settles = subst (λ (e : Engine g.row.D.Denot). IsSettled e.run_state (run_state c.into_parts.result.0 c.into_parts.ensures.0 (g.C.Children.tells c.into_parts.result.1))) c.self.view_is c.into_parts.ensures.1 in
    ap (λ (x : RunState g.row.D.Denot). x.told) (settles.same none)
