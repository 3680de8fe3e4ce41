-- The text that was read so far, and the steps of its commands.
use Rattle.std.proofs.Common.{List, ℕ, length, ◌≡◌}
use Rattle.spool_core.specs.OpenSpools.{IsSettled as NoneStaged}
use Rattle.spool_engine.specs.EventSteps.{setting}
use Rattle.spool_engine.specs.EngineRuns.{CommandStep}
use Rattle.spool_engine.proofs.RunLaws.{SoFar}
use Rattle.spool_engine.proofs.printer.Printer.serve.Given as goal

abbrev pub invariant-reads : goal.invariant-reads
invariant-reads g l = (length l.piece ≡ 16384) × NoneStaged l.self.spool × (seen : List ℕ) × (turns : List (CommandStep g.row.D.Denot)) × SoFar (setting g.D.Disk.device l.initial.mime l.initial.place) (g.R.Read.remaining l.initial.reader) (g.R.Read.remaining l.reader) l.initial.self l.self l.commands seen turns (g.W.Write.contents l.initial.writer) (g.W.Write.contents l.writer)
