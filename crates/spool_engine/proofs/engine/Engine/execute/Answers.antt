-- The inner engine executes the command, with nothing staged.
use Rattle.std.proofs.Common.{◌≡◌, subst}
use Rattle.spool_engine.specs.AnswerTexts.{answer_text}
use Rattle.spool_engine.specs.EventSteps.{setting}
use Rattle.spool_engine.specs.EngineRuns.{CommandStep, Engine, TakesStep}
use Rattle.spool_engine.proofs.engine.Engine.execute.Goals as goal

pub returns-clause-executed : goal.returns-clause-executed
returns-clause-executed g c =
    subst (λ (e : Engine g.row.D.Denot). (t : CommandStep g.row.D.Denot) × TakesStep (setting g.D.Disk.device e.mime e.place) e.run_state c.args.command t c.execute_settled.new.self.run_state
    × (answer_text c.execute_settled.new.self.run_state.spool.state c.execute_settled.result ≡ t.text)) c.self.view_is c.execute_settled.ensures.executed
