-- The turn of the queues, if there is room for a few starts only.
use Rattle.std.specs.Prelude.{◌≡◌, ◌⊎◌, ◌≤◌, ◌<◌, ◌+◌, ◌-◌, ◌%◌, ℕ, nat_le, Bool, true, false, cond, List, [], length, slice_index_or}
use Rattle.std.specs.FinMap as finite
use Rattle.spool_types.specs.State.{State}
use Rattle.child_pipeline.specs.StageSlots.{Slots}
use Rattle.print_rounds.specs.StageChecks.{blocked_flags}
use Rattle.print_rounds.specs.Passes.{unblocked}
use Rattle.print_rounds.specs.StartLimits.{can_start}

-- How many of n queues come before the one at position `at`, in the order that begins at position `turn`, modulo n.
abbrev pub queues_before : ℕ → ℕ → ℕ → ℕ
queues_before n turn at = cond (nat_le (turn % n) at) (at - turn % n) (n - turn % n + at)

-- A queue is left out if it has no running child and a next job, and was not opened. `closed` has a flag for each queue.
abbrev pub IsLeftOut : State → Slots → List Bool → ℕ → Type 0
IsLeftOut s slots closed at = (at < length (finite.keys s.queues)) × (can_start s (blocked_flags s slots) at ≡ true) × (slice_index_or closed at true ≡ true)

-- Queues that are chosen in the order that begins at position `turn`, and the turn after that. A queue that was left out comes after each
-- chosen one. In the next tick it comes before each of them, and fewer queues come before it than now.
pub record AreInTurn (turn next : ℕ) (s : State) (slots : Slots) (names : List (List ℕ)) : Type 0 where
  -- Of each queue, in ascending order of name, whether it was not chosen.
  pub closed : List Bool
  pub count : length closed ≡ length (finite.keys s.queues)
  pub are : names ≡ unblocked closed (finite.keys s.queues)
  pub later : (i j : ℕ) → slice_index_or closed i true ≡ false → IsLeftOut s slots closed j →
      queues_before (length (finite.keys s.queues)) turn i < queues_before (length (finite.keys s.queues)) turn j
  pub first : (i j : ℕ) → slice_index_or closed i true ≡ false → IsLeftOut s slots closed j →
      queues_before (length (finite.keys s.queues)) next j < queues_before (length (finite.keys s.queues)) next i
  pub nearer : (i j : ℕ) → slice_index_or closed i true ≡ false → IsLeftOut s slots closed j →
      queues_before (length (finite.keys s.queues)) next j < queues_before (length (finite.keys s.queues)) turn j
  -- If none was chosen, the turn stays.
  pub stays : names ≡ [] → next ≡ turn

-- ## The position after the last chosen queue

abbrev pub AreOn : List Bool → ℕ → ℕ → Type 0
AreOn flags from to = (i : ℕ) → from ≤ i → i < to → slice_index_or flags i true ≡ true

-- The last of the flags from position `from` to `to` that is off.
abbrev pub IsLastOff : List Bool → ℕ → ℕ → ℕ → Type 0
IsLastOff flags from to last = (from ≤ last) × (last < to) × (slice_index_or flags last true ≡ false) × AreOn flags (last + 1) to

-- The position after it, or `turn` if all are on.
abbrev pub IsTurnAfter : List Bool → ℕ → ℕ → ℕ → ℕ → Type 0
IsTurnAfter flags from to turn next = (AreOn flags from to × (next ≡ turn)) ⊎ ((last : ℕ) × IsLastOff flags from to last × (next ≡ last + 1))
