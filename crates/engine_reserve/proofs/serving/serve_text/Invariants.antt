-- The text that was read so far, and the steps of its commands.
use Rattle.std.proofs.Common.{List, ℕ, length, ◌≡◌}
use Rattle.spool_engine.specs.EngineRuns.{CommandStep}
use Rattle.engine_reserve.specs.ReservedRuns.{setting_of}
use Rattle.engine_reserve.proofs.ServingLaws.{SoFar}
use Rattle.engine_reserve.proofs.serving.serve_text.Given as goal

abbrev pub invariant-reads : goal.invariant-reads
invariant-reads g l = record {
  long : length l.piece ≡ 16384;
  mime : l.engine.mime ≡ l.initial.engine.mime;
  place : l.engine.place ≡ l.initial.engine.place;
  far : (seen : List ℕ) × (turns : List (CommandStep g.row.D.Denot)) × SoFar (setting_of g.D.Disk.device l.initial.engine) l.area (g.R.Read.remaining l.initial.reader) (g.R.Read.remaining l.reader) l.initial.engine.run_state l.engine.run_state l.commands seen turns (g.W.Write.contents l.initial.writer) (g.W.Write.contents l.writer);
}
