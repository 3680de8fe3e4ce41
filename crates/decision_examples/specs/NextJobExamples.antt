-- Examples of the order of jobs: the next job among some, and which of two precedes the other.
use Rattle.std.specs.Prelude.{◌≡◌, ℕ, Bool, true, false, not, ◌&&◌, List, [], ◌∷◌, map, codes}
use Rattle.std.specs.List.{filter}
use Rattle.spool_types.specs.declared.phase.Phase.{Phase}
use Rattle.spool_types.specs.declared.phase.Phase.TheVariants.{Incoming, Waiting, Completed}
use Rattle.spool_types.specs.declared.phase.Hold.{Hold}
use Rattle.spool_types.specs.declared.phase.Hold.TheVariants.{Free, Indefinite, Until}
use Rattle.spool_types.specs.declared.phase.HoldReason.TheVariants.{Unspecified}
use Rattle.spool_types.specs.Phases.{is_waiting}
use Rattle.spool_types.specs.State.{Job}
use Rattle.queue_sched.specs.declared.deadlines.Deadline.{Deadline}
use Rattle.queue_sched.specs.declared.entry.Entry.{Entry}
use Rattle.queue_sched.specs.Deadlines.{comes_before}
use Rattle.queue_sched.specs.WaitingIndex.{entry_of, goes_before, is_startable}
use Rattle.queue_sched.specs.Next.{beats_job, next_in}
use Rattle.decision_examples.specs.Samples.{job, lab, ready, marked, processing}

-- The numbers of the jobs that are next in the queue at the moment 100, given whether the queue is stopped.
abbrev pub next_at : Bool → List Job → List ℕ
next_at stopped jobs = map (λ (r : Job). r.id) (filter (λ r. next_in jobs lab stopped 100 r) jobs)

-- Priorities and marks; holds and moments; phases; a queue with a processing job; jobs of another queue.
abbrev pub tables : List (List Job)
tables = (job lab 1 50 ready ∷ job lab 2 80 ready ∷ job lab 3 80 ready ∷ [])
    ∷ (job lab 1 50 ready ∷ [])
    ∷ []
    ∷ (job lab 1 100 ready ∷ job lab 2 1 marked ∷ [])
    ∷ (job lab 7 50 (Waiting (Indefinite Unspecified) 0 true) ∷ [])
    ∷ (job lab 7 50 (Waiting (Until 101) 0 true) ∷ [])
    ∷ (job lab 7 50 (Waiting (Until 100) 0 false) ∷ [])
    ∷ (job lab 7 50 (Waiting Free 101 true) ∷ [])
    ∷ (job lab 7 50 (Waiting Free 100 false) ∷ [])
    ∷ (job lab 7 50 (Incoming Free) ∷ [])
    ∷ (job lab 7 50 Completed ∷ [])
    ∷ (job lab 1 50 ready ∷ job lab 2 50 processing ∷ [])
    ∷ (job lab 1 50 ready ∷ job (codes "attic") 2 50 processing ∷ [])
    ∷ (job (codes "attic") 1 100 ready ∷ job lab 2 50 ready ∷ [])
    ∷ (job (codes "attic") 1 100 ready ∷ [])
    ∷ []

abbrev pub NextRows : Type 0
NextRows = map (next_at false) tables
    ≡ (2 ∷ []) ∷ (1 ∷ []) ∷ [] ∷ (2 ∷ []) ∷ [] ∷ [] ∷ (7 ∷ []) ∷ [] ∷ (7 ∷ []) ∷ [] ∷ [] ∷ [] ∷ (1 ∷ []) ∷ (2 ∷ []) ∷ [] ∷ []

-- A stopped queue has no next job.
abbrev pub StoppedRows : Type 0
StoppedRows = map (next_at true) tables ≡ map (λ jobs. []) tables

-- One beats the other, and not the reverse.
abbrev pub beats_only : Job → Job → Bool
beats_only r q = beats_job r q && not (beats_job q r)

abbrev pub BeatRows : Type 0
BeatRows = beats_only (job lab 2 1 marked) (job lab 1 100 ready)
    ∷ beats_only (job lab 2 80 ready) (job lab 1 50 ready)
    ∷ beats_only (job lab 1 50 ready) (job lab 2 50 ready) ∷ []
    ≡ true ∷ true ∷ true ∷ []

abbrev pub entry : ℕ → ℕ → Hold → ℕ → Bool → Entry
entry id priority hold not_before first = record { id = id; first = first; priority = priority; hold = hold; not_before = not_before }

-- In their order.
abbrev pub waiting : List Entry
waiting = entry 1 90 (Indefinite Unspecified) 0 false ∷ entry 2 80 (Until 20) 10 false ∷ entry 3 70 Free 15 false ∷ []

abbrev pub startable_at : ℕ → List ℕ
startable_at now = map (λ (e : Entry). e.id) (filter (is_startable now) waiting)

abbrev pub StartableRows : Type 0
StartableRows = map startable_at (0 ∷ 14 ∷ 15 ∷ 19 ∷ 20 ∷ 4000 ∷ []) ≡ [] ∷ [] ∷ (3 ∷ []) ∷ (3 ∷ []) ∷ (2 ∷ 3 ∷ []) ∷ (2 ∷ 3 ∷ []) ∷ []

-- The entry of a waiting job; no other job has one.
abbrev pub held_and_marked : Phase
held_and_marked = Waiting (Until 7) 9 true

abbrev pub EntryRows : Type 0
EntryRows = (entry_of (job lab 3 60 held_and_marked) ≡ entry 3 60 (Until 7) 9 true)
    × (map is_waiting (held_and_marked ∷ Completed ∷ Incoming Free ∷ processing ∷ []) ≡ true ∷ false ∷ false ∷ false ∷ [])

-- Its mark precedes a priority, and it waits for its moment.
abbrev pub MarkedEntryRows : Type 0
MarkedEntryRows = goes_before (entry 3 60 (Until 7) 9 true) (entry 1 100 Free 0 false)
    ∷ map (λ now. is_startable now (entry 3 60 (Until 7) 9 true)) (8 ∷ 9 ∷ [])
    ≡ true ∷ false ∷ true ∷ []

-- A job, and its latest start.
abbrev pub deadline : ℕ → ℕ → Deadline
deadline id by = record { by = by; id = id }

-- The earlier moment is first, whatever the numbers; of equal moments the lower number is.
abbrev pub DeadlineRows : Type 0
DeadlineRows = comes_before (deadline 9 100) (deadline 1 101) ∷ comes_before (deadline 1 101) (deadline 9 100)
    ∷ comes_before (deadline 1 100) (deadline 9 100) ∷ comes_before (deadline 9 100) (deadline 1 100)
    ∷ comes_before (deadline 1 100) (deadline 1 100) ∷ []
    ≡ true ∷ false ∷ true ∷ false ∷ false ∷ []
