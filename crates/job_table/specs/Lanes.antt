-- The lanes of a table, one for each queue, and their contents.
use Rattle.std.specs.Prelude.{◌≡◌, ℕ, ◌+◌, ◌<◌, ◌≤◌, Bool, true, false, cond, List, [], ◌∷◌, length, slice_index_or, Option, None, Some}
use Rattle.std.specs.List.{Contains, AllByRecursion}
use Rattle.std.specs.FinMap as finite
use Rattle.spool_types.specs.Busy.{is_of}
use Rattle.spool_types.specs.State.{State, Job, job_at}
use Rattle.spool_types.specs.declared.phase.Phase.{Phase}
use Rattle.spool_types.specs.declared.phase.Phase.TheVariants as phases
use Rattle.queue_sched.specs.WaitingIndex.{entry_of}
use Rattle.queue_sched.specs.declared.entry.Entry.{Entry}
use Rattle.job_table.specs.declared.lane.Lane.{Lane}
use Rattle.job_table.specs.declared.lane.LaneState.{LaneState}
use Rattle.job_table.specs.declared.lane.LaneState.TheVariants.{Ended, Incoming, Waiting, Processing}

-- ## The lane state of a job

abbrev pub lane_state_in : Job → Phase → LaneState
lane_state_in r (phases.Incoming hold) = Incoming
lane_state_in r (phases.Waiting hold not_before first) = Waiting (entry_of r)
lane_state_in r (phases.Processing attempt stage stages) = Processing
lane_state_in r phase = Ended

abbrev pub lane_state_of : Job → LaneState
lane_state_of r = lane_state_in r r.phase

-- A job that is not in the queue counts as a job that has ended.
abbrev pub seat_of : List ℕ → Option Job → LaneState
seat_of name None = Ended
seat_of name (Some r) = cond (is_of name r) (lane_state_of r) Ended

-- The lane state of the job of this number, in the queue of this name.
abbrev pub seat : State → List ℕ → ℕ → LaneState
seat s name j = seat_of name (job_at s j)

abbrev pub is_live : LaneState → Bool
is_live Ended = false
is_live lane_state = true

abbrev pub live_count : LaneState → ℕ
live_count lane_state = cond (is_live lane_state) 1 0

-- ## The contents of a lane

-- No number occurs twice.
abbrev pub AllDiffer : List ℕ → Type 0
AllDiffer [] = Unit {0}
AllDiffer (j ∷ js) = AllByRecursion (λ k. ¬ (k ≡ j)) js × AllDiffer js

-- At most n numbers pass the test.
abbrev pub AtMost : (ℕ → Bool) → ℕ → Type 0
AtMost p n = (js : List ℕ) → AllDiffer js → AllByRecursion (λ j. p j ≡ true) js → length js ≤ n

-- At most n jobs have not ended.
abbrev pub AtMostLive : (ℕ → LaneState) → ℕ → Type 0
AtMostLive seats n = AtMost (λ j. is_live (seats j)) n

-- The lane has the jobs with these lane states.
pub record IsLane (seats : ℕ → LaneState) (lane : Lane) : Type 0 where
  pub waiting : (e : Entry) → Contains lane.index.items e → seats e.id ≡ Waiting e
  pub listed : (j : ℕ) (e : Entry) → seats j ≡ Waiting e → (e.id ≡ j) × Contains lane.index.items e
  pub processing : (j : ℕ) → lane.processing ≡ Some j → seats j ≡ Processing
  pub found : (j : ℕ) → seats j ≡ Processing → lane.processing ≡ Some j
  pub live : AtMostLive seats lane.live
  pub room : lane.live ≤ lane.reserved
  pub reserved : lane.reserved ≤ lane.index.room

-- One job has this lane state, and all others are as before.
pub record IsReseated (old new : ℕ → LaneState) (j : ℕ) (to : LaneState) : Type 0 where
  pub own : new j ≡ to
  pub others : (k : ℕ) → ¬ (k ≡ j) → new k ≡ old k

-- The lane has the job with this lane state.
pub record HasSeat (owner : Lane) (j : ℕ) (lane_state : LaneState) : Type 0 where
  pub seats : ℕ → LaneState
  pub lane : IsLane seats owner
  pub own : seats j ≡ lane_state

-- The same jobs, and at least as much room.
pub record IsSameLane (old new : Lane) : Type 0 where
  pub lane : (seats : ℕ → LaneState) → IsLane seats old → IsLane seats new
  pub live : new.live ≡ old.live
  pub moment : new.index.moment ≡ old.index.moment
  pub reserved : old.reserved ≤ new.reserved

-- The same jobs and the same room, at another moment.
pub record IsAdvanced (now : ℕ) (old new : Lane) : Type 0 where
  pub lane : (seats : ℕ → LaneState) → IsLane seats old → IsLane seats new
  pub live : new.live ≡ old.live
  pub moment : new.index.moment ≡ now
  pub reserved : new.reserved ≡ old.reserved

-- ## The lanes of all queues

-- Two lists of the same length. Each pair of elements at the same index satisfies the relation.
pub record AreBeside {K Y : Type 0} (P : K → Y → Type 0) (ks : List K) (ys : List Y) : Type 0 where
  pub count : length ys ≡ length ks
  pub each : (i : ℕ) (k : K) (y : Y) → i < length ys → P (slice_index_or ks i k) (slice_index_or ys i y)

-- The lane of a queue, with room for `vacant` new jobs.
pub record IsLaneOf (s : State) (vacant : ℕ) (name : List ℕ) (owner : Lane) : Type 0 where
  pub lane : IsLane (seat s name) owner
  pub moment : owner.index.moment ≡ s.moment
  pub spare : owner.live + vacant ≤ owner.reserved

abbrev pub AreLanes : State → ℕ → List Lane → Type 0
AreLanes s vacant lanes = AreBeside (IsLaneOf s vacant) (finite.keys s.queues) lanes
