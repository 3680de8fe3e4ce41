-- Script's round: what a round does if nothing fails.
use Rattle.std.specs.Prelude.{ℕ, ◌+◌, Bool, true, false, cond, List, [], ◌∷◌, ◌++◌, length, Option, None, Some}
use Rattle.std.specs.FinMap as finite
use Rattle.spool_types.specs.declared.event.Event.{Event}
use Rattle.spool_types.specs.declared.event.Event.TheVariants.{Start, Stage}
use Rattle.spool_types.specs.declared.rows.QueueRow.{QueueRow}
use Rattle.job_table.specs.Attempts.{is_in_stage, next_of}
use Rattle.spool_types.specs.State.{State, Job, job_at, queue_at}
use Rattle.job_table.specs.Step.{after, reply_to}
use Rattle.filter_args.specs.declared.place.Place.{Place}
use Rattle.child_pipeline.specs.ChildTraces.{ChildTrace, starts_next, after_start, first_finish, after_finish}
use Rattle.child_pipeline.specs.Finishes.{kept}
use Rattle.child_pipeline.specs.StageSlots.{Slots, slot_in, put_progress, progress_after, order_in, end_in}
use Rattle.child_pipeline.specs.declared.runner.Progress.{Progress}
use Rattle.child_pipeline.specs.declared.runner.Progress.TheVariants.{Ready, Running, Ended}
use Rattle.child_pipeline.specs.declared.runner.Slot.{Slot}
use Rattle.print_rounds.specs.Choice.{busy_jobs, slots_for}
use Rattle.print_rounds.specs.RunStates.{is_silent, moved_by}

-- A table, the slots, the children's trace, the events so far, and the number of children that were started and of ends that were
-- acknowledged.
pub record Play : Type 0 where
  pub state : State
  pub slots : Slots
  pub told : ChildTrace
  pub events : List Event
  pub started : ℕ
  pub ended : ℕ

abbrev pub with_event : Play → Event → Play
with_event p e = record p { state = after p.state e; events = p.events ++ e ∷ [] }

abbrev pub start_of : Play → Option ℕ → Play
start_of p None = p
start_of p (Some j) = with_event p (Start j)

-- A queue's next job is started.
abbrev pub play_start : Play → List ℕ → Play
play_start p queue = start_of p (next_of p.state queue)

-- The input of a first stage is its job's document. No event of a round sends anything, so the documents stay as they are.
abbrev pub launched_on : Place → (ℕ → List ℕ) → Play → Job → QueueRow → Slots → Play
launched_on place documents p r q own = record p {
  slots = put_progress own r.id (progress_after (starts_next p.told) (length p.told.orders));
  told = after_start p.told (order_in place own r q (documents r.id));
  started = p.started + cond (starts_next p.told) 1 0;
}

abbrev pub launched_by : Place → (ℕ → List ℕ) → Play → Job → QueueRow → Option Slots → Play
launched_by place documents p r q None = p
launched_by place documents p r q (Some own) = launched_on place documents p r q own

abbrev pub launched_in : Place → (ℕ → List ℕ) → Play → Job → Option QueueRow → Play
launched_in place documents p r None = p
launched_in place documents p r (Some q) = launched_by place documents p r q (slots_for p.slots r)

abbrev pub launched_for : Place → (ℕ → List ℕ) → Play → Option Job → Play
launched_for place documents p None = p
launched_for place documents p (Some r) = launched_in place documents p r (queue_at p.state r.queue)

-- The stage of a job is started.
abbrev pub play_launch : Place → (ℕ → List ℕ) → Play → ℕ → Play
play_launch place documents p j = launched_for place documents p (job_at p.state j)

abbrev pub waited_by : Play → ℕ → Progress ℕ → Play
waited_by p j (Ready input) = p
waited_by p j (Running n) = record p { slots = put_progress p.slots j (Ended (kept (first_finish p.told.finishes))); told = after_finish p.told n }
waited_by p j (Ended finish) = p

abbrev pub waited : Play → ℕ → Play
waited p j = waited_by p j (slot_in p.slots j).progress

abbrev pub reported : Play → ℕ → Play
reported p j =
    let e : Event = Stage (end_in p.slots j) in
    record (with_event p e) { slots = moved_by p.slots j (reply_to p.state e); ended = p.ended + 1 }

abbrev pub ended_if : Play → ℕ → Bool → Play
ended_if p j true = p
ended_if p j false = reported (waited p j) j

-- The child of a job is finished, and its end reported.
abbrev pub play_end : Play → ℕ → Play
play_end p j = ended_if p j (is_silent (finite.get p.slots j))

abbrev pub plays : {X : Type 0} → (Play → X → Play) → Play → List X → Play
plays f p [] = p
plays f p (x ∷ xs) = plays f (f p x) xs

-- The slot is for the attempt and the stage that the job is in.
abbrev pub is_current : Option Job → Option (Slot ℕ) → Bool
is_current None slot = false
is_current (Some r) None = false
is_current (Some r) (Some slot) = is_in_stage slot.attempt slot.stage r.phase

-- A slot whose attempt and stage are not those of its job in the table is freed.
abbrev pub current_slots : State → Slots → Slots
current_slots s slots = finite.retain_keys slots (λ j. is_current (job_at s j) (finite.get slots j))

abbrev pub play_from : State → Slots → ChildTrace → Play
play_from s slots told = record { state = s; slots = slots; told = told; events = []; started = 0; ended = 0 }

abbrev pub fresh_play : State → Slots → ChildTrace → Play
fresh_play s slots told = play_from s (current_slots s slots) told

-- One stage of each of these jobs: all are started, then each is finished.
abbrev pub play_stages : Place → (ℕ → List ℕ) → Play → List ℕ → Play
play_stages place documents p jobs = plays play_end (plays (play_launch place documents) p jobs) jobs

abbrev pub play_busy : Place → (ℕ → List ℕ) → Play → List (List ℕ) → Play
play_busy place documents p queues = play_stages place documents p (busy_jobs p.state queues)

-- Script's round for jobs with these documents, over the queues in ascending order of name.
abbrev pub round_of : Place → (ℕ → List ℕ) → State → Slots → ChildTrace → Play
round_of place documents s slots told = play_busy place documents (plays play_start (fresh_play s slots told) (finite.keys s.queues)) (finite.keys s.queues)
