-- Moments by the time of the service.
use Rattle.std.specs.Prelude.{ℕ, ◌+◌, ◌-◌, ◌%◌, ◌^◌, min, nat_lt, Bool, true, false, ◌||◌, cond, Option, None, Some, unwrap_or}
use Rattle.front_words.specs.declared.asked.Hold.{Hold}
use Rattle.front_words.specs.declared.asked.Hold.TheVariants.{Until}
use Rattle.front_words.specs.declared.asked.Moment.{Moment}
use Rattle.front_words.specs.declared.asked.Moment.TheVariants.{Epoch, FromNow, OfDay}
use Rattle.spool_front.specs.declared.moments.Clocks.{Clocks}

-- A service that does not know `now` has the system's clock.
abbrev pub clocks_of : Option ℕ → ℕ → Clocks
clocks_of told system = record { service = unwrap_or told system; system = system }

-- The clocks differ by more than two seconds.
abbrev pub are_apart : Clocks → Bool
are_apart c = nat_lt 2 (c.service - c.system) || nat_lt 2 (c.system - c.service)

-- A moment of the system's clock, by the service's time.
abbrev pub shifted : Clocks → ℕ → ℕ
shifted c seconds = min (seconds + c.service) (2 ^ 64 - 1) - c.system

-- The seconds from a second of a day to the next moment at another second of a day.
abbrev pub until_day : ℕ → ℕ → ℕ
until_day now second = (second + 86400 - now % 86400) % 86400

-- A relative moment counts from the service's time. An absolute one is shifted by the difference of the clocks if they are apart.
abbrev pub second_of : Clocks → Moment → ℕ
second_of c (FromNow seconds) = min (c.service + seconds) (2 ^ 64 - 1)
second_of c (OfDay second) = min (c.service + until_day c.service second) (2 ^ 64 - 1)
second_of c (Epoch seconds) = cond (are_apart c) (shifted c seconds) seconds

-- The moment until which a job is held.
abbrev pub hold_moment : Hold → Option Moment
hold_moment (Until moment) = Some moment
hold_moment hold = None

abbrev pub is_absolute : Option Moment → Bool
is_absolute (Some (Epoch seconds)) = true
is_absolute moment = false
