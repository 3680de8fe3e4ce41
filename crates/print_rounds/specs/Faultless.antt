-- If nothing failed, the steps are those of Script.
use Rattle.std.specs.Prelude.{◌≡◌, ℕ, List, [], ◌∷◌, ◌++◌, Option, None, Some, Ok, Err}
use Rattle.spool_disk.specs.Disk.{DiskView}
use Rattle.spool_types.specs.declared.event.Event.{Event}
use Rattle.filter_args.specs.declared.place.Place.{Place}
use Rattle.child_pipeline.specs.StageSlots.{Slots}
use Rattle.child_pipeline.specs.ChildTraces.{ChildTrace}
use Rattle.spool_core.specs.OpenSpools.{OpenSpool}
use Rattle.print_rounds.specs.RunStates.{RunState, Answer, Starting, Launching, Ending, IsRunOfStages, AreHanded}
use Rattle.print_rounds.specs.Counts.{started_in, told_in, ending_events, starting_events}
use Rattle.print_rounds.specs.RoundScript.{Play, play_from, play_stages, plays, play_start}
use Rattle.print_rounds.specs.declared.outcome.Launch.{Launch}
use Rattle.print_rounds.specs.declared.outcome.Launch.TheVariants.{Unlaunched, Launched, NoMemory, Disk, Dead}
use Rattle.print_rounds.specs.declared.outcome.Report.{Report}
use Rattle.print_rounds.specs.declared.outcome.Report.TheVariants as reports

-- The job of a queue was started, or the queue had none.
abbrev pub IsBegun : Option Answer → Type 0
IsBegun None = Unit {0}
IsBegun (Some (Ok reply)) = Unit {0}
IsBegun (Some (Err fault)) = ⊥

abbrev pub AllBegun : {D : Type 0} → List (Starting D) → Type 0
AllBegun [] = Unit {0}
AllBegun (t ∷ ts) = IsBegun t.answer × AllBegun ts

-- If nothing failed in these starts, they are Script's.
abbrev pub AreExactStarts : {D : Type 0} → OpenSpool D → List (List ℕ) → OpenSpool D → List (Starting D) → Type 0
AreExactStarts old queues new ts =
    (slots : Slots) (told : ChildTrace) → AllBegun ts → plays play_start (play_from old.state slots told) queues ≡ record (play_from new.state slots told) { events = starting_events old ts }

-- Memory sufficed, and the device worked.
abbrev pub IsServed : Launch → Type 0
IsServed Unlaunched = Unit {0}
IsServed (Launched started) = Unit {0}
IsServed NoMemory = ⊥
IsServed Disk = ⊥
IsServed Dead = ⊥

abbrev pub AllServed : List Launching → Type 0
AllServed [] = Unit {0}
AllServed (l ∷ ls) = IsServed l.launch × AllServed ls

-- The event, if any, was acknowledged.
abbrev pub IsTold : Report → Type 0
IsTold reports.Silent = Unit {0}
IsTold reports.NoMemory = ⊥
IsTold (reports.Answered (Ok reply)) = Unit {0}
IsTold (reports.Answered (Err fault)) = ⊥

abbrev pub AllTold : {D : Type 0} → List (Ending D) → Type 0
AllTold [] = Unit {0}
AllTold (e ∷ es) = IsTold e.report × AllTold es

-- The table, the slots, the trace, the events after earlier ones, and the counts are those of a play.
pub record IsPlayed {D : Type 0} (device : DiskView D) (place : Place) (old : RunState D) (jobs : List ℕ) (new : RunState D) (runs : IsRunOfStages device place old jobs new) (before : List Event) (p : Play) : Type 0 where
  pub state : new.spool.state ≡ p.state
  pub slots : new.slots ≡ p.slots
  pub told : new.told ≡ Some p.told
  pub events : before ++ ending_events runs.endings ≡ p.events
  pub started : started_in runs.launchings ≡ p.started
  pub ended : told_in runs.endings ≡ p.ended

-- If nothing failed in these steps and the children report, they are Script's, with the documents that were read.
abbrev pub AreExact : {D : Type 0} (device : DiskView D) (place : Place) (old : RunState D) (jobs : List ℕ) (new : RunState D) → IsRunOfStages device place old jobs new → Type 0
AreExact device place old jobs new runs =
    (t : ChildTrace) (before : List Event) (documents : ℕ → List ℕ) → old.told ≡ Some t → t.running ≡ [] → AllServed runs.launchings → AllTold runs.endings → AreHanded documents runs.launchings
    → IsPlayed device place old jobs new runs before (play_stages place documents (record (play_from old.spool.state old.slots t) { events = before }) jobs)
