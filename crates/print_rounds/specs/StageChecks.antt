-- Checks while children may be running: which slots stay, which queues may start a job, and whose ends are reported.
use Rattle.std.specs.Prelude.{◌≡◌, ℕ, Bool, ◌&&◌, ◌||◌, not, true, false, cond, List, [], ◌∷◌, map, Option, None, Some}
use Rattle.std.specs.List.{filter, list_any}
use Rattle.std.specs.FinMap as finite
use Rattle.spool_types.specs.Busy.{is_of}
use Rattle.spool_types.specs.State.{State, Job, job_at}
use Rattle.child_pipeline.specs.StageSlots.{Slots, FinishesStage, is_running}
use Rattle.child_pipeline.specs.ChildTraces.{ChildTrace, Looks}
use Rattle.child_pipeline.specs.declared.runner.Slot.{Slot}
use Rattle.print_rounds.specs.Choice.{busy_jobs}
use Rattle.print_rounds.specs.RoundScript.{is_current}

-- ## Slots with a running child

abbrev pub has_child : Option (Slot ℕ) → Bool
has_child None = false
has_child (Some slot) = is_running slot.progress

-- The child of the job's slot is running.
abbrev pub runs : Slots → ℕ → Bool
runs slots j = has_child (finite.get slots j)

abbrev pub is_kept : Option Job → Option (Slot ℕ) → Bool
is_kept row o = is_current row o || has_child o

-- A slot whose attempt and stage are not those of its job in the table is freed, unless its child is running.
abbrev pub idle_slots : State → Slots → Slots
idle_slots s slots = finite.retain_keys slots (λ j. is_kept (job_at s j) (finite.get slots j))

-- The child of the slot is running, and its job has left the stage: it was canceled, or its attempt was abandoned.
abbrev pub is_stray : State → Slots → ℕ → Bool
is_stray s slots j = runs slots j && not (is_current (job_at s j) (finite.get slots j))

abbrev pub strays : State → Slots → List ℕ
strays s slots = filter (is_stray s slots) (finite.keys slots)

-- ## Queues and jobs

abbrev pub is_of_queue : List ℕ → Option Job → Bool
is_of_queue name None = false
is_of_queue name (Some r) = is_of name r

-- A child of the queue is running: that of its processing job, or of a job that has left its stage.
abbrev pub is_blocked : State → Slots → List ℕ → Bool
is_blocked s slots name = list_any (λ j. runs slots j && is_of_queue name (job_at s j)) (finite.keys slots)

-- The same of each queue, in ascending order of name.
abbrev pub blocked_flags : State → Slots → List Bool
blocked_flags s slots = map (λ name. is_blocked s slots name) (finite.keys s.queues)

-- The queues without a running child, in ascending order of name.
abbrev pub free_queues : State → Slots → List (List ℕ)
free_queues s slots = filter (λ name. not (is_blocked s slots name)) (finite.keys s.queues)

-- The processing jobs of these queues, except those with a running child of an earlier stage.
abbrev pub tended_jobs : State → Slots → List (List ℕ) → List ℕ
tended_jobs s slots names = filter (λ j. not (is_stray s slots j)) (busy_jobs s names)

-- The jobs without a running child.
abbrev pub idle_among : Slots → List ℕ → List ℕ
idle_among slots js = filter (λ j. not (runs slots j)) js

-- ## Checks

-- A check of a job: whether the end of its stage is reported now, and the trace after the check.
pub record Look : Type 0 where
  pub job : ℕ
  pub ripe : Bool
  pub told : Option ChildTrace

-- Whether a check is made: only of a running child that is not waited for.
abbrev pub is_looked_at : Bool → Slots → ℕ → Bool
is_looked_at waits slots j = not waits && runs slots j

-- If no check is made, the end is reported.
abbrev pub IsLookBy : Bool → Option ChildTrace → Look → Type 0
IsLookBy true told l = Looks told l.ripe l.told
IsLookBy false told l = (l.ripe ≡ true) × (l.told ≡ told)

abbrev pub IsLook : Bool → Slots → Option ChildTrace → Look → Type 0
IsLook waits slots told l = IsLookBy (is_looked_at waits slots l.job) told l

abbrev pub AreLooks : Bool → Slots → Option ChildTrace → List Look → Option ChildTrace → Type 0
AreLooks waits slots told [] told' = told' ≡ told
AreLooks waits slots told (l ∷ ls) told' = IsLook waits slots told l × AreLooks waits slots l.told ls told'

-- The jobs whose ends are reported now.
abbrev pub ripe_in : List Look → List ℕ
ripe_in [] = []
ripe_in (l ∷ ls) = cond l.ripe (l.job ∷ ripe_in ls) (ripe_in ls)

-- ## Children whose jobs have left their stages

-- Such a child is checked and, if it has ended, it is finished and its slot freed. Its end is not reported.
pub record Dropping : Type 0 where
  pub look : Look
  pub slots : Slots
  pub told : Option ChildTrace

-- `kept` are the slots with its finish.
abbrev pub IsDropped : Bool → Slots → ℕ → Option ChildTrace → Slots → Option ChildTrace → Type 0
IsDropped false slots j told new told' = (new ≡ slots) × (told' ≡ told)
IsDropped true slots j told new told' = (kept : Slots) × FinishesStage told slots j kept told' × (new ≡ finite.remove kept j)

abbrev pub IsDropping : Bool → Slots → Option ChildTrace → Dropping → Type 0
IsDropping waits slots told d = IsLook waits slots told d.look × IsDropped d.look.ripe slots d.look.job d.look.told d.slots d.told

abbrev pub AreDroppings : Bool → Slots → Option ChildTrace → List Dropping → Slots → Option ChildTrace → Type 0
AreDroppings waits slots told [] new told' = (new ≡ slots) × (told' ≡ told)
AreDroppings waits slots told (d ∷ ds) new told' = IsDropping waits slots told d × AreDroppings waits d.slots d.told ds new told'
