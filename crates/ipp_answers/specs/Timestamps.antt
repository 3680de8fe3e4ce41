-- A moment and its date by the Gregorian calendar, in UTC.
use Rattle.std.specs.Prelude.{◌≡◌, ℕ, ◌+◌, ◌*◌, ◌/◌, ◌%◌, ◌<◌, pos}
use Rattle.jiff_core.specs.Calendar.{IsCivilDate, days_from_civil}
use Rattle.jiff_core.specs.declared.civil.date.Date.{Date}
use Rattle.jiff_core.specs.declared.civil.time.Time.{Time}
use Rattle.ipp_values.specs.declared.value.DateTime.{DateTime}

-- The seconds that passed since midnight.
abbrev pub second_of_day : DateTime → ℕ
second_of_day d = d.hour * 3600 + d.minute * 60 + d.second

-- The date of the moment that is this many seconds after the beginning of 1970, with a plus sign (43) and no difference from UTC.
pub record IsDateOf (seconds : ℕ) (d : DateTime) : Type 0 where
  pub civil : IsCivilDate (pos d.year) d.month d.day
  pub day : days_from_civil (pos d.year) d.month d.day ≡ pos (seconds / 86400)
  pub hour : d.hour < 24
  pub minute : d.minute < 60
  pub second : d.second < 60
  pub time : second_of_day d ≡ seconds % 86400
  pub deciseconds : d.deciseconds ≡ 0
  pub direction : d.utc_direction ≡ 43
  pub hours : d.utc_hours ≡ 0
  pub minutes : d.utc_minutes ≡ 0

-- The date has this day.
pub record ShowsDay (day : Date) (d : DateTime) : Type 0 where
  pub year : pos d.year ≡ day.year
  pub month : d.month ≡ day.month
  pub day_of_month : d.day ≡ day.day

-- The date has this time of day, in UTC.
pub record ShowsTime (time : Time) (d : DateTime) : Type 0 where
  pub hour : d.hour ≡ time.hour
  pub minute : d.minute ≡ time.minute
  pub second : d.second ≡ time.second
  pub deciseconds : d.deciseconds ≡ 0
  pub direction : d.utc_direction ≡ 43
  pub hours : d.utc_hours ≡ 0
  pub minutes : d.utc_minutes ≡ 0
