-- When the service logs that the system's clock and its time differ.
use Rattle.std.specs.Prelude.{ℕ, ◌-◌, cond, not, ◌&&◌, Bool, true, false, nat_lt, nat_le, Option, None, Some, is_some}
use Rattle.service_rules.specs.declared.service_time.ServiceTime.{ServiceTime}
use Rattle.service_rules.specs.declared.clock_news.News.{News}
use Rattle.service_rules.specs.declared.clock_news.ClockState.{ClockState}
use Rattle.service_rules.specs.declared.clock_news.ClockState.TheVariants.{Along, Behind, Ahead}
use Rattle.service_rules.specs.Bounds.{least_parting, news_interval}

-- The system's clock is more than two seconds behind a time.
abbrev pub is_behind : ℕ → ℕ → Bool
is_behind time system = nat_lt least_parting (time - system)

-- A system's clock that is far ahead is not followed yet.
abbrev pub clock_state : ServiceTime → ℕ → ClockState
clock_state t system = cond (is_some t.ahead) Ahead (cond (is_behind t.time system) Behind Along)

abbrev pub is_same : ClockState → ClockState → Bool
is_same Along Along = true
is_same Behind Behind = true
is_same Ahead Ahead = true
is_same one other = false

-- The last line was written at least a minute ago.
abbrev pub is_rested : ℕ → ℕ → Bool
is_rested last steady = nat_le news_interval (steady - last)

-- At first the clocks agree. Another state is logged, at most once a minute.
abbrev pub is_news : Option News → ClockState → ℕ → Bool
is_news None state steady = not (is_same state Along)
is_news (Some last) state steady = not (is_same last.state state) && is_rested last.steady steady
