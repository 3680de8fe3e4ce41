-- A day that is not before the beginning of 1970 is in no year before it.
use Rattle.std.proofs.Common.{◌≡◌, ℕ, ℤ, ◌≤ℤ◌, pos, arith}
use Rattle.jiff_core.specs.Calendar.{IsCivilDate, days_from_civil}
use Rattle.jiff_core.proofs.CalendarLemmas.{day_count-lt_year}
use Rattle.jiff_core.proofs.SignedLemmas.{signed_arith}
use Rattle.std.proofs.lemmas.Int.{by_lt_z}

pub no_year_before : (y : ℤ) (m d n : ℕ) → IsCivilDate y m d → days_from_civil y m d ≡ pos n → pos 0 ≤ℤ y
unfolding days_from_civil
no_year_before y m d n h is =
    by_lt_z y (pos 1970)
    (λ lt. absurd (omega (arith, signed_arith, day_count-lt_year y m d (pos 1970) 1 1 h (omega arith) lt)))
    (λ le. omega (arith, signed_arith))
