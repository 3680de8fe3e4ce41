-- The commands so far were served.
use Rattle.std.proofs.Common.{List, Ok}
use Rattle.command_lines.specs.PendingCommands.{weight}
use Rattle.spool_core.specs.OpenSpools.{IsSettled as NoneStaged}
use Rattle.spool_engine.specs.EventSteps.{setting}
use Rattle.spool_engine.specs.EngineRuns.{CommandStep, Drains}
use Rattle.spool_engine.proofs.printer.Printer.serve_whole.Given as goal

abbrev pub invariant-commands : goal.invariant-commands
invariant-commands g l = NoneStaged l.self.spool × (turns : List (CommandStep g.row.D.Denot)) × Drains (setting g.D.Disk.device l.initial.mime l.initial.place) l.initial.self l.initial.commands turns l.self l.commands (Ok tt) (g.W.Write.contents l.initial.writer) (g.W.Write.contents l.writer)

abbrev pub decreases-commands : goal.decreases-commands
decreases-commands g l = weight l.commands
