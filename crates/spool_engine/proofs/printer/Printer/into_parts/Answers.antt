-- Each running child is waited for.
use Rattle.std.proofs.Common.{subst}
use Rattle.print_rounds.specs.RunStates.{RunState, run_state}
use Rattle.spool_engine.specs.EngineRounds.{IsSettled}
use Rattle.spool_engine.proofs.SettleLaws.{settled_of}
use Rattle.spool_engine.proofs.printer.Printer.into_parts.Goals as goal

pub returns : goal.returns
returns g c =
    let tells = g.C.Children.tells in
    let old = run_state c.self.inside.executor c.self.inside.runner (tells c.self.inside.children) in
    let runner = c.finish_children.new.runner in
    let children = c.finish_children.new.children in
    let (fs, steps, jobs) = c.finish_children.ensures.steps in (
      runner,
      subst (λ (s : RunState g.row.D.Denot). IsSettled s (run_state c.into_spool.result runner (tells children))) c.self.view_is
          (settled_of old c.into_spool.result runner (tells children) fs c.into_spool.ensures steps jobs c.finish_children.ensures.rest c.finish_children.ensures.finished),
    )
