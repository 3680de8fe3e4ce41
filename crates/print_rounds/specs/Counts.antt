-- The results of a round's steps: the number of children that were started and of ends that were acknowledged, the events that were
-- acknowledged or tried, and the faults.
use Rattle.std.specs.Prelude.{◌≡◌, ◌⊎◌, ℕ, Bool, true, cond, List, [], ◌∷◌, ◌++◌, Option, None, Some, Result, Ok, Err}
use Rattle.std.specs.List.{flat_map, sum_by}
use Rattle.std.specs.Option.{option_or}
use Rattle.spool_types.specs.declared.event.Event.{Event}
use Rattle.spool_types.specs.declared.event.Event.TheVariants.{Start, Stage}
use Rattle.job_table.specs.Attempts.{next_of}
use Rattle.spool_core.specs.OpenSpools.{OpenSpool}
use Rattle.spool_core.specs.declared.spool.apply_fault.ApplyFault.{ApplyFault}
use Rattle.spool_core.specs.declared.spool.apply_fault.ApplyFault.TheVariants as faults
use Rattle.child_pipeline.specs.StageSlots.{end_in}
use Rattle.print_rounds.specs.RunStates.{Answer, Starting, Launching, Ending}
use Rattle.print_rounds.specs.declared.outcome.Launch.{Launch}
use Rattle.print_rounds.specs.declared.outcome.Launch.TheVariants as launches
use Rattle.print_rounds.specs.declared.outcome.Report.{Report}
use Rattle.print_rounds.specs.declared.outcome.Report.TheVariants as reports
use Rattle.print_rounds.specs.declared.outcome.Round.{Round}
use Rattle.print_rounds.specs.declared.outcome.RoundFault.{RoundFault}
use Rattle.print_rounds.specs.declared.outcome.RoundFault.TheVariants as ends

-- ## Faults

-- A refusal is no fault: the pass asks the table first, so none occurs.
abbrev pub fault_of : ApplyFault → Option RoundFault
fault_of faults.Dead = Some ends.Dead
fault_of (faults.Refused refusal) = None
fault_of faults.Memory = Some ends.Memory
fault_of faults.Full = Some ends.Full
fault_of faults.Disk = Some ends.Disk

abbrev pub answer_fault : Answer → Option RoundFault
answer_fault (Ok reply) = None
answer_fault (Err fault) = fault_of fault

abbrev pub start_fault : Option Answer → Option RoundFault
start_fault None = None
start_fault (Some answer) = answer_fault answer

abbrev pub launch_fault : Launch → Option RoundFault
launch_fault launches.Unlaunched = None
launch_fault (launches.Launched started) = None
launch_fault launches.NoMemory = Some ends.Memory
launch_fault launches.Disk = Some ends.Disk
launch_fault launches.Dead = Some ends.Dead

abbrev pub report_fault : Report → Option RoundFault
report_fault reports.Silent = None
report_fault reports.NoMemory = Some ends.Memory
report_fault (reports.Answered answer) = answer_fault answer

-- The first fault of some steps.
abbrev pub first_fault : {X : Type 0} → (X → Option RoundFault) → List X → Option RoundFault
first_fault f [] = None
first_fault f (x ∷ xs) = option_or (f x) (first_fault f xs)

abbrev pub starting_fault : {D : Type 0} → List (Starting D) → Option RoundFault
starting_fault ts = first_fault (λ t. start_fault t.answer) ts

abbrev pub launching_fault : List Launching → Option RoundFault
launching_fault ts = first_fault (λ t. launch_fault t.launch) ts

abbrev pub ending_fault : {D : Type 0} → List (Ending D) → Option RoundFault
ending_fault es = first_fault (λ e. report_fault e.report) es

-- ## Counts

abbrev pub started_by : Launch → ℕ
started_by launches.Unlaunched = 0
started_by (launches.Launched started) = cond started 1 0
started_by launches.NoMemory = 0
started_by launches.Disk = 0
started_by launches.Dead = 0

abbrev pub told_by : Report → ℕ
told_by reports.Silent = 0
told_by reports.NoMemory = 0
told_by (reports.Answered (Ok reply)) = 1
told_by (reports.Answered (Err fault)) = 0

abbrev pub started_in : List Launching → ℕ
started_in ts = sum_by (λ t. started_by t.launch) ts

abbrev pub told_in : {D : Type 0} → List (Ending D) → ℕ
told_in es = sum_by (λ e. told_by e.report) es

abbrev pub counts_of : {D : Type 0} → List Launching → List (Ending D) → Round
counts_of launchings endings = record { started = started_in launchings; finished = told_in endings }

abbrev pub stages_fault : {D : Type 0} → List Launching → List (Ending D) → Option RoundFault
stages_fault launchings endings = option_or (launching_fault launchings) (ending_fault endings)

-- The counts, or the first fault.
abbrev pub result_of : Round → Option RoundFault → Result Round RoundFault
result_of round None = Ok round
result_of round (Some fault) = Err fault

-- ## Events

abbrev pub acknowledged_by : Event → Answer → List Event
acknowledged_by e (Ok reply) = e ∷ []
acknowledged_by e (Err fault) = []

abbrev pub start_events : Option ℕ → Option Answer → List Event
start_events None answer = []
start_events (Some j) None = []
start_events (Some j) (Some a) = acknowledged_by (Start j) a

-- The events that were acknowledged among the starts.
abbrev pub starting_events : {D : Type 0} → OpenSpool D → List (Starting D) → List Event
starting_events s [] = []
starting_events s (t ∷ ts) = start_events (next_of s.state t.queue) t.answer ++ starting_events t.next ts

abbrev pub report_events : Event → Report → List Event
report_events e reports.Silent = []
report_events e reports.NoMemory = []
report_events e (reports.Answered a) = acknowledged_by e a

-- The events that were acknowledged among the ends.
abbrev pub ending_events : {D : Type 0} → List (Ending D) → List Event
ending_events es = flat_map (λ e. report_events (Stage (end_in e.kept.slots e.job)) e.report) es

-- These of the tried events were acknowledged: all of them or, if the device has failed by then, all except the last one, which was in
-- progress when it failed. If it failed at a read or at a checkpoint, no event was in progress.
abbrev pub AreAcknowledged : Bool → List Event → List Event → Type 0
AreAcknowledged dead tried acknowledged = (tried ≡ acknowledged) ⊎ ((dead ≡ true) × (hand : Event) × (tried ≡ acknowledged ++ hand ∷ []))

-- An event is tried if it is acknowledged or the device fails at it. After that no event is tried.
abbrev pub tried_by : Event → Answer → List Event
tried_by e (Ok reply) = e ∷ []
tried_by e (Err faults.Dead) = []
tried_by e (Err (faults.Refused refusal)) = []
tried_by e (Err faults.Memory) = []
tried_by e (Err faults.Full) = []
tried_by e (Err faults.Disk) = e ∷ []

abbrev pub start_tried : Option ℕ → Option Answer → List Event
start_tried None answer = []
start_tried (Some j) None = []
start_tried (Some j) (Some a) = tried_by (Start j) a

-- The events that were tried among the starts.
abbrev pub starting_tried : {D : Type 0} → OpenSpool D → List (Starting D) → List Event
starting_tried s [] = []
starting_tried s (t ∷ ts) = start_tried (next_of s.state t.queue) t.answer ++ starting_tried t.next ts

abbrev pub report_tried : Event → Report → List Event
report_tried e reports.Silent = []
report_tried e reports.NoMemory = []
report_tried e (reports.Answered a) = tried_by e a

-- The events that were tried among the ends.
abbrev pub ending_tried : {D : Type 0} → List (Ending D) → List Event
ending_tried es = flat_map (λ e. report_tried (Stage (end_in e.kept.slots e.job)) e.report) es
