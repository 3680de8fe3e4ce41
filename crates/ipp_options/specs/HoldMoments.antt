-- Moments of holds, in seconds since 1970 in UTC.
use Rattle.std.specs.Prelude.{ℕ, ◌+◌, ◌-◌, ◌*◌, ◌/◌, ◌%◌, Bool, ◌||◌, ◌&&◌, not, cond, nat_le, nat_lt, ◌==◌, List, length, codes, Option, None, Some}
use Rattle.std.specs.Option.{option_map, option_and_then}
use Rattle.line_words.specs.DecimalNumbers.{decimal}
use Rattle.ipp_printers.specs.MediaNames.{parted}
use Rattle.ipp_values.specs.declared.value.DateTime.{DateTime}

-- ## Times of the day

-- One or two digits with a value of at most `most`.
abbrev pub field : ℕ → List ℕ → Option ℕ
field most word = cond (nat_le (length word) 2) (decimal most word) None

abbrev pub added : Option ℕ → Option ℕ → Option ℕ
added (Some a) (Some b) = Some (a + b)
added a b = None

abbrev pub times : ℕ → Option ℕ → Option ℕ
times n (Some a) = Some (a * n)
times n None = None

-- MM, or MM:SS with parts around the colon, in seconds.
abbrev pub minutes_of : List ℕ → Option (List ℕ × List ℕ) → Option ℕ
minutes_of text None = times 60 (field 59 text)
minutes_of text (Some (minutes, seconds)) = added (times 60 (field 59 minutes)) (field 59 seconds)

-- HH:MM or HH:MM:SS, in seconds after midnight.
abbrev pub day_time : List ℕ → Option ℕ
day_time text = option_and_then (λ p. added (times 3600 (field 23 p.0)) (minutes_of p.1 (parted 58 p.1))) (parted 58 text)

-- The first moment from `now` on that is this many seconds after a midnight.
abbrev pub next_moment : ℕ → ℕ → ℕ
next_moment now seconds = cond (nat_le now (now / 86400 * 86400 + seconds)) (now / 86400 * 86400 + seconds) (now / 86400 * 86400 + seconds + 86400)

-- ## Dates (RFC 2579, DateAndTime)

abbrev pub is_leap : ℕ → Bool
is_leap year = (year % 4 == 0) && (not (year % 100 == 0) || (year % 400 == 0))

abbrev pub is_short : ℕ → Bool
is_short month = month == 4 || month == 6 || month == 9 || month == 11

abbrev pub days_in : ℕ → ℕ → ℕ
days_in year month = cond (month == 2) (cond (is_leap year) 29 28) (cond (is_short month) 30 31)

-- Days of a common year before a month.
abbrev pub days_before : ℕ → ℕ
days_before month =
    cond (month == 1) 0 (cond (month == 2) 31 (cond (month == 3) 59 (cond (month == 4) 90 (cond (month == 5) 120 (cond (month == 6) 151
    (cond (month == 7) 181 (cond (month == 8) 212 (cond (month == 9) 243 (cond (month == 10) 273 (cond (month == 11) 304 334))))))))))

-- Leap days up to the end of a year.
abbrev pub leap_days : ℕ → ℕ
leap_days year = year / 4 - year / 100 + year / 400

-- Days from the first of January 1970 to a day of a year from 1970 on. Before that year there were 477 leap days.
abbrev pub days_to : ℕ → ℕ → ℕ → ℕ
days_to year month day =
    365 * (year - 1970) + (leap_days (year - 1) - 477) + days_before month + cond (is_leap year && nat_lt 2 month) 1 0 + (day - 1)

abbrev pub is_day : DateTime → Bool
is_day date = nat_le 1 date.month && nat_le date.month 12 && nat_le 1 date.day && nat_le date.day (days_in date.year date.month)

-- A minute may have 61 seconds.
abbrev pub is_time : DateTime → Bool
is_time date = nat_le date.hour 23 && nat_le date.minute 59 && nat_le date.second 60

-- `+` or `-`, hours and minutes.
abbrev pub is_offset : DateTime → Bool
is_offset date = (date.utc_direction == 43 || date.utc_direction == 45) && nat_le date.utc_hours 14 && nat_le date.utc_minutes 59

-- The fields are in their ranges.
abbrev pub is_date : DateTime → Bool
is_date date = is_day date && is_time date && is_offset date

abbrev pub local_seconds : DateTime → ℕ
local_seconds date = days_to date.year date.month date.day * 86400 + (date.hour * 3600 + date.minute * 60 + date.second)

abbrev pub utc_offset : DateTime → ℕ
utc_offset date = date.utc_hours * 3600 + date.utc_minutes * 60

-- A moment before 1970 counts as the first.
abbrev pub seconds_of : DateTime → ℕ
seconds_of date = cond (nat_lt date.year 1970) 0 (cond (date.utc_direction == 43) (local_seconds date - utc_offset date) (local_seconds date + utc_offset date))
