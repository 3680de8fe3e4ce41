-- The rounds so far, none of them idle or with a fault.
use Rattle.std.proofs.Common.{◌≡◌, List, length}
use Rattle.spool_core.specs.OpenSpools.{IsSettled as NoneStaged}
use Rattle.spool_engine.specs.EventSteps.{setting}
use Rattle.spool_engine.specs.Mime.{Mime}
use Rattle.spool_engine.specs.EngineRounds.{Ran, AreRan}
use Rattle.spool_engine.proofs.DrainLaws.{AreBusy}
use Rattle.spool_engine.proofs.printer.Printer.drain.Given as goal

abbrev pub invariant-loop-run : goal.invariant-loop-run
invariant-loop-run g l = ((m : Mime) → (rs : List (Ran g.row.D.Denot)) × AreRan (setting g.D.Disk.device m l.initial.place) l.initial.self rs l.self × AreBusy rs × (length rs ≡ l.run)) × NoneStaged l.self.spool
