-- The children that must end, and when each is sent which signal. Moments are in milliseconds.
use Rattle.std.specs.Prelude.{◌≡◌, ℕ, ◌-◌, ◌==◌, Bool, cond, filter_map, is_some, nat_le, false, List, [], ◌∷◌, ◌++◌, length, Option, None, Some}
use Rattle.std.specs.List.{items_where_true, list_any}
use Rattle.std.specs.Option.{option_map}
use Rattle.std.specs.FinMap as finite
use Rattle.child_pipeline.specs.StageSlots.{Slots, group_in}
use Rattle.service_loop.specs.declared.endings.Ending.{Ending}
use Rattle.service_loop.specs.declared.signals.Signal.{Signal}
use Rattle.service_loop.specs.declared.signals.Signal.TheVariants.{Terminate, Kill}

-- How long a child has after SIGTERM.
abbrev pub grace : ℕ
grace = 10000

-- It is sent SIGTERM first, and SIGKILL once its grace period is over.
abbrev pub signal_of : Option ℕ → ℕ → Option Signal
signal_of None now = Some Terminate
signal_of (Some sent) now = cond (nat_le grace (now - sent)) (Some Kill) None

-- A child of this group is listed.
abbrev pub is_listed : ℕ → List Ending → Bool
is_listed group endings = list_any (λ ending. ending.group == group) endings

-- The child of a job is listed last, unless its group is already listed.
abbrev pub with_ending : ℕ → ℕ → List Ending → List Ending
with_ending job group endings =
    cond (is_listed group endings) endings (endings ++ record { job = job; group = group; sent = None } ∷ [])

abbrev pub is_group : ℕ → Option ℕ → Bool
is_group group None = false
is_group group (Some running) = running == group

-- The job's child runs in the group that was noted.
abbrev pub is_current : (ℕ → ℕ) → Slots → Ending → Bool
is_current groups slots ending = is_group ending.group (group_in groups (finite.get slots ending.job))

-- Some of these children, unchanged and in their order: for each of them one choice whether it remains.
pub record AreAmong (all kept : List Ending) : Type 0 where
  pub choices : List Bool
  pub each : length choices ≡ length all
  pub chosen : kept ≡ items_where_true choices all

-- A child that must end, after it was sent the signal that was due.
abbrev pub signalled : ℕ → Ending → Ending
signalled now e = record e { sent = cond (is_some (signal_of e.sent now)) (Some now) e.sent }

-- The signal that is due, with its group.
abbrev pub due_to : ℕ → Ending → Option (ℕ × Signal)
due_to now e = option_map (λ signal. (e.group, signal)) (signal_of e.sent now)

-- The signals that are due to these children, in order.
abbrev pub signals_due : ℕ → List Ending → List (ℕ × Signal)
signals_due now endings = filter_map (due_to now) endings

-- These signals follow those sent before, if they are still reported. What reports none never begins to report.
abbrev pub Sends : Option (List (ℕ × Signal)) → Option (List (ℕ × Signal)) → List (ℕ × Signal) → Type 0
Sends old None signals = Unit {0}
Sends None (Some now) signals = ⊥
Sends (Some sent) (Some now) signals = now ≡ sent ++ signals
