-- The commands so far were served.
use Rattle.std.proofs.Common.{◌≡◌, List, [], Ok}
use Rattle.command_lines.specs.PendingCommands.{weight, to_come}
use Rattle.spool_engine.specs.EngineRuns.{CommandStep}
use Rattle.engine_reserve.specs.ReservedRuns.{ServesEnd, setting_of}
use Rattle.engine_reserve.proofs.serving.serve_end.Given as goal

abbrev pub invariant-commands : goal.invariant-commands
invariant-commands g l = record {
  mime : l.engine.mime ≡ l.initial.engine.mime;
  place : l.engine.place ≡ l.initial.engine.place;
  served : (turns : List (CommandStep g.row.D.Denot)) × ServesEnd (setting_of g.D.Disk.device l.initial.engine) l.area l.initial.engine.run_state l.initial.commands turns l.engine.run_state (to_come l.commands []) (Ok tt) (g.W.Write.contents l.initial.writer) (g.W.Write.contents l.writer);
}

abbrev pub decreases-commands : goal.decreases-commands
decreases-commands g l = weight l.commands
