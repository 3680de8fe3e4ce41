-- How long a wait of the loop is at most, and when a requested end is reached. Waits are in microseconds, and an end in milliseconds.
use Rattle.std.specs.Prelude.{◌≡◌, ℕ, ◌-◌, ◌*◌, ◌/◌, ◌%◌, ◌^◌, ◌≤◌, min, Bool, true, false, cond, not, nat_lt, nat_le, Option, None, Some, Result, Ok, Err}
use Rattle.std.specs.Option.{option_map}
use Rattle.spool_types.specs.Limits.{greatest_moment}
use Rattle.spool_types.specs.State.{State}
use Rattle.print_rounds.specs.declared.outcome.Round.{Round}
use Rattle.print_rounds.specs.declared.outcome.RoundFault.{RoundFault}
use Rattle.service_rules.specs.Bounds.{millisecond}
use Rattle.service_rules.specs.ChildPolling.{earlier, poll_wait}
use Rattle.service_rules.specs.Clocks.{clock_wait}
use Rattle.service_rules.specs.Incoming.{check_wait}
use Rattle.service_loop.specs.Due.{clocks_of}
use Rattle.service_loop.specs.declared.maintenance.Maintenance.{Maintenance}

-- The longest wait if nothing announces what the loop waits for: the clock cannot be read, an end was requested, the journal is full, or a client
-- could not be accepted.
abbrev pub longest_idle : ℕ
longest_idle = 1000000

-- How long a requested end waits for processing jobs.
abbrev pub longest_end : ℕ
longest_end = 60000

-- The milliseconds until maintenance has something to do, at this time of the service: until the next second if something was done since
-- it last examined the table, or until the time must be sent.
abbrev pub maintenance_wait : Maintenance → Bool → State → ℕ → Option ℕ
maintenance_wait m true s millis = Some (1000 - millis % 1000)
maintenance_wait m false s millis =
    cond (nat_le (millis / 1000) greatest_moment) (clock_wait (clocks_of m s (millis / 1000)) m.due (millis % 1000)) None

-- The same for the time that the clock has reported, if it could be read.
abbrev pub clock_bound : Maintenance → Bool → State → Option ℕ → Option ℕ
clock_bound m active s None = Some longest_idle
clock_bound m active s (Some millis) = option_map (λ wait. min (wait * millisecond) (2 ^ 64 - 1)) (maintenance_wait m active s millis)

-- The time until abandoned jobs are checked, if some jobs were left.
abbrev pub check_bound : Bool → ℕ → ℕ → Option ℕ
check_bound none next now = option_map (λ wait. min (wait * millisecond) (2 ^ 64 - 1)) (check_wait (not none) next now)

-- The wait of a turn, given the time until the next check of the children and until maintenance has something to do. `wakes`: at most a second.
abbrev pub loop_wait : Bool → Bool → Option ℕ → Option ℕ → Option ℕ
loop_wait more true look clock = earlier (poll_wait more look clock) (Some longest_idle)
loop_wait more false look clock = poll_wait more look clock

-- How long the youngest child had run at the last check that saw a child's end: that of a tick which saw one, after this time.
abbrev pub lasted_after : Result Round RoundFault → ℕ → ℕ → ℕ
lasted_after (Ok round) ran before = cond (nat_lt 0 round.finished) ran before
lasted_after (Err fault) ran before = before

-- A minute after it was requested, an end is reached.
abbrev pub IsEndedBy : Option ℕ → ℕ → Bool → Type 0
IsEndedBy None now over = over ≡ false
IsEndedBy (Some asked) now over = longest_end ≤ now - asked → over ≡ true
