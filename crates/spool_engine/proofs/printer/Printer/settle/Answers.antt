-- A settle of the executor, over an equal run state.
use Rattle.std.proofs.Common.{refl, subst}
use Rattle.print_rounds.specs.RunStates.{RunState, run_state}
use Rattle.spool_engine.specs.StagedSteps.{SettlesTo}
use Rattle.spool_engine.proofs.printer.Printer.settle.Goals as goal

pub returns-clause-settles : goal.returns-clause-settles
returns-clause-settles g c =
    subst (λ (s : RunState g.row.D.Denot). SettlesTo g.D.Disk.device s (run_state c.settle.new.self c.self.inside.runner (g.C.Children.tells c.self.inside.children))) c.self.view_is
    (record { spool = c.settle.ensures.settles; held = record { slots = refl; told = refl } })
