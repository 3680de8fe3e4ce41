-- The starts if the children have room for a few only.
use Rattle.std.specs.Prelude.{◌≡◌, ◌⊎◌, ◌≤◌, ◌<◌, ◌+◌, ◌-◌, ◌%◌, ℕ, min, nat_le, Bool, true, not, ◌&&◌, cond, List, [], ◌∷◌, ◌++◌, length, take, drop, slice_index_or, Option, None, Some, IfSome, IsSomeAnd, is_some}
use Rattle.std.specs.List.{filter}
use Rattle.std.specs.FinMap as finite
use Rattle.spool_types.specs.State.{State}
use Rattle.job_table.specs.Attempts.{next_of}
use Rattle.child_pipeline.specs.StageSlots.{Slots}
use Rattle.print_rounds.specs.declared.start_room.StartRoom.{StartRoom}
use Rattle.print_rounds.specs.declared.start_room.TickLimits.{TickLimits}
use Rattle.print_rounds.specs.Choice.{busy_jobs}
use Rattle.print_rounds.specs.StageChecks.{free_queues, idle_among}

-- ## Room

-- How many children may be started while this number runs.
abbrev pub left_by : TickLimits → ℕ → ℕ
left_by l running = min l.starts (l.most - running)

abbrev pub lesser : ℕ → Option ℕ → ℕ
lesser left None = left
lesser left (Some n) = min left n

-- The room that the limits leave, if the children have room for this number of starts, or bound none.
abbrev pub room_within : Option TickLimits → ℕ → ℕ → Option ℕ → Option StartRoom
room_within None running first None = None
room_within None running first (Some n) = Some (record { count = n; first = first })
room_within (Some l) running first answer = Some (record { count = lesser (left_by l running) answer; first = first })

-- The limits leave no room.
abbrev pub IsFull : Option TickLimits → ℕ → Type 0
IsFull None running = ⊥
IsFull (Some l) running = left_by l running ≡ 0

-- The room of a tick. The children are asked for theirs, unless the limits leave none.
abbrev pub IsRoomBy : (Option ℕ → Type 0) → Option TickLimits → ℕ → ℕ → Option StartRoom → Type 0
IsRoomBy asked limits running first room =
    (IsFull limits running × (room ≡ Some (record { count = 0; first = first }))) ⊎ ((answer : Option ℕ) × asked answer × (room ≡ room_within limits running first answer))

-- The room is within the limits.
abbrev pub IsRoomWithin : Option TickLimits → ℕ → Option StartRoom → Type 0
IsRoomWithin limits running room = IfSome limits (λ l. IsSomeAnd room (λ p. p.count ≤ left_by l running))

-- There is room for n starts, or nothing bounds them.
abbrev pub HasStartRoomFor : Option StartRoom → ℕ → Type 0
HasStartRoomFor None n = Unit {0}
HasStartRoomFor (Some p) n = n ≤ p.count

-- A part of a list, in its order.
abbrev pub IsPartOf : {X : Type 0} → List X → List X → Type 0
IsPartOf [] ys = Unit {0}
IsPartOf (x ∷ xs) [] = ⊥
IsPartOf (x ∷ xs) (y ∷ ys) = ((x ≡ y) × IsPartOf xs ys) ⊎ IsPartOf (x ∷ xs) ys

-- The number of these flags that are off.
abbrev pub opened_in : List Bool → ℕ
opened_in [] = 0
opened_in (closed ∷ flags) = cond closed 0 1 + opened_in flags

-- ## Jobs

-- The processing jobs without a running child.
abbrev pub waiting_jobs : State → Slots → List ℕ
waiting_jobs s slots = idle_among slots (busy_jobs s (finite.keys s.queues))

-- `count` items from position `first` on and then from the beginning, in the order of the list.
abbrev pub window : {X : Type 0} → ℕ → ℕ → List X → List X
window count first xs = take (count - (length xs - first)) xs ++ take (count - (count - (length xs - first))) (drop first xs)

-- The items that have room: all, if there is room for all.
abbrev pub rotated : {X : Type 0} → Option StartRoom → List X → List X
rotated None xs = xs
rotated (Some p) xs = cond (nat_le (length xs) p.count) xs (window p.count (p.first % length xs) xs)

-- ## Queues

abbrev pub has_next : State → List ℕ → Bool
has_next s name = is_some (next_of s name)

-- The queue at this position is not blocked and has a next job.
abbrev pub can_start : State → List Bool → ℕ → Bool
can_start s blocked at = not (slice_index_or blocked at true) && has_next s (slice_index_or (finite.keys s.queues) at [])

-- The free queues whose next jobs may be started: all, if there is room for each queue. Otherwise the jobs that wait for a child come
-- first, and queues with a next job use the room that is left.
pub record AreChosen (start_room : Option StartRoom) (s : State) (slots : Slots) (names : List (List ℕ)) : Type 0 where
  pub all : HasStartRoomFor start_room (length (finite.keys s.queues)) → names ≡ free_queues s slots
  pub part : IsPartOf names (free_queues s slots)
  pub few : IfSome start_room (λ p. p.count < length (finite.keys s.queues) → length names ≤ p.count - length (waiting_jobs s slots))
  pub full : IfSome start_room (λ p. p.count < length (finite.keys s.queues) → length names < p.count - length (waiting_jobs s slots) → names ≡ filter (has_next s) (free_queues s slots))
