-- How long the service pauses before its next check of the children, in microseconds.
use Rattle.std.specs.Prelude.{ℕ, ◌-◌, ◌/◌, zero, suc, min, max, Bool, true, false, cond, nat_lt, Option, None, Some}
use Rattle.service_rules.specs.declared.looks.Pause.{Pause}
use Rattle.service_rules.specs.Bounds.{first_look, last_look, longest_first, look_parts, millisecond}

-- The pause if the youngest child has run this long: a part of that time, within the bounds.
abbrev pub pause_of : ℕ → ℕ
pause_of ran = max first_look (min (ran / look_parts) last_look)

-- When a child that is alone is first checked: a little before the time that the previous child ran, but soon.
abbrev pub first_after : ℕ → ℕ
first_after before = min (before - before / look_parts) longest_first

-- The pause if the only child has run this long: until its first check, and then as for any child.
abbrev pub pause_alone : ℕ → ℕ → ℕ
pause_alone before ran = cond (nat_lt ran (first_after before)) (max first_look (first_after before - ran)) (pause_of ran)

-- No pause if no child runs.
abbrev pub next_look : ℕ → ℕ → ℕ → Option ℕ
next_look before ran zero = None
next_look before ran (suc zero) = Some (pause_alone before ran)
next_look before ran (suc (suc running)) = Some (pause_of ran)

-- The earlier of two ends of a wait, if there is one.
abbrev pub earlier : Option ℕ → Option ℕ → Option ℕ
earlier None wait = wait
earlier (Some a) None = Some a
earlier (Some a) (Some b) = Some (min a b)

-- The poll does not wait if there is more to do. Otherwise it waits for the check or the clock, whichever is earlier, or without either
-- until something is ready.
abbrev pub poll_wait : Bool → Option ℕ → Option ℕ → Option ℕ
poll_wait true look clock = Some 0
poll_wait false look clock = earlier look clock

-- A poll counts in milliseconds. A shorter wait is a nap before a poll that does not wait; of a longer one the whole milliseconds are
-- polled.
abbrev pub pause_for : ℕ → Pause
pause_for wait = record { nap = cond (nat_lt wait millisecond) wait 0; poll = wait / millisecond }
