-- When the service sends its engine the time.
use Rattle.std.specs.Prelude.{ℕ, ◌+◌, ◌-◌, ◌*◌, min, max, cond, ◌&&◌, Bool, true, false, nat_lt, nat_le, Option, None, Some}
use Rattle.service_rules.specs.declared.clocks.Clocks.{Clocks}
use Rattle.service_rules.specs.Bounds.{clock_interval, longest_wait}

-- Something will be due, and its moment has come.
abbrev pub has_come : Option ℕ → ℕ → Bool
has_come None system = false
has_come (Some due) system = nat_le due system

-- The last clock was sent at least `clock_interval` seconds ago, or none was sent.
abbrev pub is_rested : Option ℕ → ℕ → Bool
is_rested None system = true
is_rested (Some told) system = nat_le (told + clock_interval) system

-- The second of the service's time is sent if something is due, the table's moment is earlier, and the last clock was sent before.
abbrev pub clock_to_announce : Clocks → Option ℕ
clock_to_announce c = cond (has_come c.due c.system && (nat_lt c.table c.system && is_rested c.told c.system)) (Some c.system) None

-- The first second after the last clock that was sent.
abbrev pub second_behind : Option ℕ → ℕ
second_behind None = 0
second_behind (Some told) = told + clock_interval

-- The first second when the clock is sent, if something is due at a moment.
abbrev pub second_to_announce : Clocks → ℕ → ℕ
second_to_announce c due = max due (max (c.table + 1) (second_behind c.told))

-- The time until that second, this many milliseconds after the beginning of the service's second.
abbrev pub wait_for : ℕ → ℕ → ℕ → ℕ
wait_for second system millis = min ((second - system) * 1000 - millis) longest_wait

-- None if nothing will be due.
abbrev pub clock_wait : Clocks → Option ℕ → ℕ → Option ℕ
clock_wait c None millis = None
clock_wait c (Some due) millis = Some (wait_for (second_to_announce c due) c.system millis)

-- ## While a stage runs that may be retried

-- The interval of a retry counts from the table's moment. So while a stage runs whose end may lead to a retry, the system's second is sent
-- when the table's moment is earlier.
abbrev pub clock_for_retry : Clocks → Bool → Option ℕ
clock_for_retry c retries = cond retries (clock_to_announce (record c { due = Some c.system })) None
