-- The calls of engines over any number of lives of a spool, and their orders.
use Rattle.std.specs.Prelude.{◌≡◌, List, [], ◌∷◌, ◌++◌, Some}
use Rattle.std.specs.FinMap as finite
use Rattle.spool_disk.specs.Disk.{DiskView}
use Rattle.spool_types.specs.declared.event.Event.{Event}
use Rattle.spool_types.specs.State.{State}
use Rattle.job_table.specs.Attempts.{HasNoProcessing}
use Rattle.job_table.specs.EventFold.{after_all}
use Rattle.job_table.specs.Legal.{IsLegal}
use Rattle.job_table.specs.Stages.{Key}
use Rattle.job_table.specs.TableVersions.{raised}
use Rattle.filter_args.specs.declared.place.Place.{Place}
use Rattle.child_pipeline.specs.ChildTraces.{ChildTrace}
use Rattle.child_pipeline.specs.declared.order.Placed.{Placed}
use Rattle.print_rounds.specs.RunStates.{RunState}
use Rattle.print_rounds.specs.StageHistory.{keys_in}
use Rattle.spool_engine.specs.EngineCalls.{Call, AreCalls, last_by}
use Rattle.spool_engine.specs.EventSteps.{setting}
use Rattle.spool_engine.specs.Mime.{Mime}

-- An engine: the MIME database, the `Place` and the run state that it was made with, the children's trace at that time, its calls (at least
-- one), and the orders made in them.
pub record EngineLife (D : Type 0) : Type 0 where
  pub mime : Mime
  pub place : Place
  pub start : RunState D
  pub told : ChildTrace
  pub first : Call D
  pub later : List (Call D)
  pub orders : List Placed

abbrev pub last_of : {D : Type 0} → EngineLife D → RunState D
last_of l = last_by l.start (l.first ∷ l.later)

-- The engine was made on a legal table without a processing job, as an opening leaves it. It had no slots, its children report, and none
-- was running.
pub record IsEngineLife {D : Type 0} (device : DiskView D) (l : EngineLife D) : Type 0 where
  pub legal : IsLegal (l.start).spool.state
  pub idle : HasNoProcessing (l.start).spool.state
  pub empty : (l.start).slots ≡ finite.empty
  pub tells : (l.start).told ≡ Some l.told
  pub quiet : (l.told).running ≡ []
  pub calls : AreCalls (setting device l.mime l.place) l.start (l.first ∷ l.later)
  pub now : ChildTrace
  pub tells_then : (last_of l).told ≡ Some now
  pub added : now.orders ≡ (l.told).orders ++ l.orders

-- Each engine is made on the table that the previous one left, after some further events: the current one at the crash, and the Reopen of
-- the opening. A checkpoint may have raised the version in the crash, so the tables are compared in the newest version.
abbrev pub AreEngineLives : {D : Type 0} → DiskView D → State → List (EngineLife D) → Type 0
AreEngineLives device s [] = Unit {0}
AreEngineLives device s (l ∷ ls) =
    IsEngineLife device l × ((further : List Event) × (raised (l.start).spool.state ≡ after_all (raised s) further)) × AreEngineLives device (last_of l).spool.state ls

abbrev pub IsEngineHistory : {D : Type 0} → DiskView D → List (EngineLife D) → Type 0
IsEngineHistory device [] = Unit {0}
IsEngineHistory device (l ∷ ls) = IsEngineLife device l × AreEngineLives device (last_of l).spool.state ls

-- The stages of all orders.
abbrev pub keys_told : {D : Type 0} → List (EngineLife D) → List Key
keys_told [] = []
keys_told (l ∷ ls) = keys_in l.orders ++ keys_told ls
