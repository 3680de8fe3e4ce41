-- The printer executes the command on the run state that the engine shows, with the engine's locale.
use Rattle.std.proofs.Common.{◌≡◌, sym, subst, ℕ, List}
use Rattle.spool_engine.specs.AnswerTexts.{answer_text}
use Rattle.spool_engine.specs.EventSteps.{setting}
use Rattle.spool_core.specs.OpenSpools.{IsSettled as NoneStaged}
use Rattle.spool_engine.specs.EngineRuns.{CommandStep, Engine, TakesStep}
use Rattle.spool_engine.proofs.staging.StagingEngine.execute_settled.Goals as goal

pub returns-clause-executed : goal.returns-clause-executed
returns-clause-executed g c =
    let (t, takes, same) = c.execute.ensures.executed in
    let here : TakesStep {D = g.row.D.Denot} (setting g.D.Disk.device (record { types = c.self.inside.types; convs = c.self.inside.convs; locale = c.self.inside.place.lang.bytes.items }) c.self.inside.place) c.self.inside.printer c.args.command t c.execute.new.self
    = subst (λ (locale : List ℕ). TakesStep {D = g.row.D.Denot} (setting g.D.Disk.device (record { types = c.self.inside.types; convs = c.self.inside.convs; locale = locale }) c.self.inside.place) c.self.inside.printer c.args.command t c.execute.new.self) c.as_str.ensures.value takes in
    (t, subst (λ (e : Engine g.row.D.Denot). TakesStep {D = g.row.D.Denot} (setting g.D.Disk.device e.mime e.place) e.run_state c.args.command t c.execute.new.self) c.self.view_is here, same)

pub execute-requires : goal.execute-requires
execute-requires g c = record { settled = subst (λ (e : Engine g.row.D.Denot). NoneStaged e.run_state.spool) (sym c.self.view_is) c.requires.settled }
