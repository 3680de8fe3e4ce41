-- The holds that attributes ask for (RFC 8011, section 5.2.2; PWG 5100.11 for job-hold-until-time).
use Rattle.std.specs.Prelude.{ℕ, Bool, true, false, ◌||◌, cond, nat_le, ◌==◌, List, codes, Option, None, Some}
use Rattle.std.specs.Option.{option_and_then}
use Rattle.spool_types.specs.Limits.{greatest_moment}
use Rattle.ipp_values.specs.declared.value.DateTime.{DateTime}
use Rattle.ipp_values.specs.declared.value.Value.{Value}
use Rattle.ipp_values.specs.declared.value.Value.TheVariants as values
use Rattle.ipp_options.specs.AttributeWords.{same, only, word_in}
use Rattle.ipp_options.specs.HoldMoments.{day_time, next_moment, is_date, seconds_of}
use Rattle.ipp_options.specs.declared.hold.Hold.{Hold}
use Rattle.ipp_options.specs.declared.hold.Hold.TheVariants.{Free, Indefinite, Until}

abbrev pub until : ℕ → Option Hold
until moment = cond (nat_le moment greatest_moment) (Some (Until moment)) None

-- `no-hold`, `indefinite`, or a time of the day in UTC. Other words depend on the local zone.
abbrev pub hold_word : ℕ → List ℕ → Option Hold
hold_word now word =
    cond (same word (codes "no-hold")) (Some Free)
    (cond (same word (codes "indefinite")) (Some Indefinite)
    (option_and_then (λ seconds. until (next_moment now seconds)) (day_time word)))

-- The value of job-hold-until.
abbrev pub hold_in : ℕ → List Value → Option Hold
hold_in now list = option_and_then (hold_word now) (word_in list)

abbrev pub hold_date : DateTime → Option Hold
hold_date date = cond (is_date date) (until (seconds_of date)) None

abbrev pub hold_of : Value → Option Hold
hold_of (values.DateTime date) = hold_date date
hold_of value = None

-- The value of job-hold-until-time.
abbrev pub hold_time_in : List Value → Option Hold
hold_time_in list = option_and_then hold_of (only list)

-- The word of a hold without a moment.
abbrev pub hold_keyword : Hold → Option (List ℕ)
hold_keyword Free = Some (codes "no-hold")
hold_keyword Indefinite = Some (codes "indefinite")
hold_keyword (Until moment) = None

abbrev pub is_free : Hold → Bool
is_free Free = true
is_free Indefinite = false
is_free (Until moment) = false

abbrev pub same_hold : Hold → Hold → Bool
same_hold Free Free = true
same_hold Indefinite Indefinite = true
same_hold (Until moment) (Until other) = moment == other
same_hold hold other = false
