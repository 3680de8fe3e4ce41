-- Incoming jobs whose clients have disconnected. Moments are in milliseconds.
use Rattle.std.specs.Prelude.{ℕ, ◌+◌, ◌-◌, Bool, true, false, cond, max, nat_le, Option, None, Some, unwrap_or}
use Rattle.service_rules.specs.Bounds.{check_interval}

-- Nothing was sent to the job for this long.
abbrev pub is_abandoned : ℕ → ℕ → ℕ → Bool
is_abandoned limit since now = nat_le limit (now - since)

-- A job is abandoned if nothing was sent to it after this moment.
abbrev pub abandoned_until : ℕ → ℕ → Option ℕ
abandoned_until limit now = cond (nat_le limit now) (Some (now - limit)) None

abbrev pub is_until : ℕ → Option ℕ → Bool
is_until since None = false
is_until since (Some until) = nat_le since until

-- The moment of the next check, by the moment of the last send to the job that waits longest, if one waits. A job that is left later is not
-- abandoned before. There is at most one check a second.
abbrev pub next_check : ℕ → ℕ → Option ℕ → ℕ
next_check limit now oldest = max (unwrap_or oldest now + limit) (now + check_interval)

-- The time until the next check, if there are jobs to check.
abbrev pub check_wait : Bool → ℕ → ℕ → Option ℕ
check_wait true next now = Some (next - now)
check_wait false next now = None
