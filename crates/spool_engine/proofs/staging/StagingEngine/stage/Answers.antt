-- The printer stages the command on the run state that the engine shows, with the engine's locale.
use Rattle.std.proofs.Common.{◌≡◌, subst, ℕ, List}
use Rattle.spool_engine.specs.AnswerTexts.{answer_text}
use Rattle.spool_engine.specs.EventSteps.{setting}
use Rattle.spool_engine.specs.EngineRuns.{CommandStep, Engine}
use Rattle.spool_engine.specs.StagedSteps.{StagesStep}
use Rattle.spool_engine.proofs.staging.StagingEngine.stage.Goals as goal

pub returns-clause-staged : goal.returns-clause-staged
returns-clause-staged g c =
    let (t, takes, same) = c.stage.ensures c.self.inside.place in
    let here : StagesStep {D = g.row.D.Denot} (setting g.D.Disk.device (record { types = c.self.inside.types; convs = c.self.inside.convs; locale = c.self.inside.place.lang.bytes.items }) c.self.inside.place) c.self.inside.printer c.args.command t c.stage.new.self
    = subst (λ (locale : List ℕ). StagesStep {D = g.row.D.Denot} (setting g.D.Disk.device (record { types = c.self.inside.types; convs = c.self.inside.convs; locale = locale }) c.self.inside.place) c.self.inside.printer c.args.command t c.stage.new.self) c.as_str.ensures.value takes in
    (t, subst (λ (e : Engine g.row.D.Denot). StagesStep {D = g.row.D.Denot} (setting g.D.Disk.device e.mime e.place) e.run_state c.args.command t c.stage.new.self) c.self.view_is here, same)
