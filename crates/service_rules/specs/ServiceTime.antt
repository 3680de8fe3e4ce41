-- The time of the service: it goes on with the steady clock, whatever the system's clock does.
use Rattle.std.specs.Prelude.{ℕ, ◌+◌, ◌-◌, ◌*◌, ◌^◌, ◌≤◌, max, min, cond, Bool, nat_lt, nat_le, List, [], ◌∷◌, Option, None, Some, unwrap_or, IsTrue, IsSomeAnd}
use Rattle.std.specs.Option.{option_map}
use Rattle.service_rules.specs.declared.service_time.Reading.{Reading}
use Rattle.service_rules.specs.declared.service_time.ServiceTime.{ServiceTime}
use Rattle.service_rules.specs.Bounds.{longest_step, longest_doubt}

-- The time by the steady clock and the table alone: the last time and what the steady clock has counted since, or the table's moment if
-- that is later.
abbrev pub base_of : ServiceTime → Reading → ℕ
base_of t r = max (min (t.time + (r.steady - t.steady)) (2 ^ 64 - 1)) (r.table * 1000)

-- The system's clock is more than a day ahead of a time.
abbrev pub is_far : ℕ → ℕ → Bool
is_far base system = nat_lt longest_step (system - base)

-- No system's clock is far ahead.
abbrev pub settled : ℕ → ℕ → ServiceTime
settled time steady = record { time = time; steady = steady; ahead = None }

-- The system's clock has been far ahead since a moment of the steady clock. It is followed after ten minutes.
abbrev pub doubted : ℕ → ℕ → ℕ → ℕ → ServiceTime
doubted base system steady since =
    cond (nat_le longest_doubt (steady - since)) (settled system steady) (record { time = base; steady = steady; ahead = Some since })

-- The system's clock is followed at once if it is ahead by at most a day. `ahead`: since when it has been further ahead.
abbrev pub next_by : ℕ → ℕ → Option ℕ → Option ℕ → ServiceTime
next_by base steady ahead None = settled base steady
next_by base steady ahead (Some system) =
    cond (is_far base system) (doubted base system steady (unwrap_or ahead steady)) (settled (max base system) steady)

-- The steady clock is never before an earlier reading.
abbrev pub next : ServiceTime → Reading → ServiceTime
next t r = next_by (base_of t r) (max t.steady r.steady) t.ahead r.system

-- At the first reading it is the system's clock, or the table's moment if that is later.
abbrev pub start : Reading → Option ServiceTime
start r = option_map (λ system. settled (max system (r.table * 1000)) r.steady) r.system

-- The time after a reading, if the system's clock could be read once.
abbrev pub read : Option ServiceTime → Reading → Option ServiceTime
read None r = start r
read (Some last) r = Some (next last r)

-- The time after these readings.
abbrev pub after : ServiceTime → List Reading → ServiceTime
after t [] = t
after t (r ∷ rest) = after (next t r) rest

-- At each of these readings the system's clock is far ahead of the time, and the table's moment is not after a first time.
abbrev pub AreAllAhead : ServiceTime → ℕ → List Reading → Type 0
AreAllAhead t first [] = Unit {0}
AreAllAhead t first (r ∷ rest) =
    IsSomeAnd r.system (λ system. IsTrue (is_far (base_of t r) system)) × (r.table * 1000 ≤ first) × AreAllAhead (next t r) first rest
