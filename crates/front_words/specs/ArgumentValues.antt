-- The values of options and arguments.
use Rattle.std.specs.Prelude.{ℕ, ◌+◌, ◌*◌, Bool, false, is_none, List, [], ◌∷◌, ◌++◌, Option, None, Some, codes, if◌then◌else◌, nat_le, ◌==◌, option_and_then, option_map, unwrap_or}
use Rattle.std.specs.List.{after_first, before_first}
use Rattle.std.specs.Str.{bytes_eq}
use Rattle.clap.specs.Words.{Row, Text, all_of}
use Rattle.line_words.specs.DecimalNumbers.{decimal}
use Rattle.front_words.specs.declared.asked.Moment.{Moment}
use Rattle.front_words.specs.declared.asked.Moment.TheVariants.{Epoch, FromNow, OfDay}

-- All values that were found for an option or argument.
abbrev pub all_in : Text → List Row → List Text
all_in name found = unwrap_or (all_of name found) []

-- The value is this word.
abbrev pub is_word : Text → Option Text → Bool
is_word word None = false
is_word word (Some text) = bytes_eq text word

-- A flag that is set has the value `true`.
abbrev pub is_told : Option Text → Bool
is_told given = is_word (codes "true") given

-- The part after the last mark so far, and the rest of the text.
abbrev pub part_of : ℕ → Text → Text → Text
part_of mark part [] = part
part_of mark part (b ∷ bs) = part_of mark (if b == mark then bs else part) bs

-- The part after the last such byte, or the whole text if there is none.
abbrev pub last_part : ℕ → Text → Text
last_part mark text = part_of mark text text

-- A decimal number in a range.
abbrev pub if_least : ℕ → ℕ → Option ℕ
if_least least number = if nat_le least number then Some number else None

abbrev pub number_in : ℕ → ℕ → Text → Option ℕ
number_in least most text = option_and_then (if_least least) (decimal most text)

-- The number of an option, or its default.
abbrev pub number_or : ℕ → ℕ → ℕ → Option Text → Option ℕ
number_or least most usual None = Some usual
number_or least most usual (Some text) = number_in least most text

-- A moment: seconds since 1970, or `+` and seconds from now.
abbrev pub moment_of : Text → Option Moment
moment_of [] = None
moment_of (b ∷ bs) =
    if b == 43 then option_map FromNow (decimal 4000000000000 bs)
    else option_map Epoch (decimal 4000000000000 (b ∷ bs))

-- ## A time of day, `HH:MM` or `HH:MM:SS`

abbrev pub is_colon : ℕ → Bool
is_colon b = b == 58

-- The seconds can be missing.
abbrev pub seconds_in : Text → Option ℕ
seconds_in [] = Some 0
seconds_in (b ∷ bs) = number_in 0 59 (b ∷ bs)

abbrev pub clock_at : Option ℕ → Option ℕ → Option ℕ → Option Moment
clock_at (Some hours) (Some minutes) (Some seconds) = Some (OfDay (hours * 3600 + minutes * 60 + seconds))
clock_at hours minutes seconds = None

-- The next moment at a time of day.
abbrev pub clock_of : Text → Option Moment
clock_of text =
    let rest = after_first is_colon text in
    clock_at (number_in 0 23 (before_first is_colon text)) (number_in 0 59 (before_first is_colon rest)) (seconds_in (after_first is_colon rest))

abbrev pub or_moment : Option Moment → Text → Option Moment
or_moment (Some moment) text = Some moment
or_moment None text = moment_of text

-- A time of day or another moment.
abbrev pub day_moment : Text → Option Moment
day_moment text = or_moment (clock_of text) text

-- ## Moments and jobs

abbrev pub moment_or_none : Option Text → Option (Option Moment)
moment_or_none None = Some None
moment_or_none (Some text) = option_map Some (moment_of text)

-- A job: its number, which may follow a queue's name and a hyphen.
abbrev pub job_of : Text → Option ℕ
job_of text = number_in 1 2147483647 (last_part 45 text)

abbrev pub job_or_none : Option Text → Option (Option ℕ)
job_or_none None = Some None
job_or_none (Some text) = option_map Some (job_of text)

-- The jobs found so far, followed by those of the remaining texts, if each is a job.
abbrev pub jobs_on : List ℕ → List Text → Option (List ℕ)
jobs_on jobs [] = Some jobs
jobs_on jobs (text ∷ rest) = option_and_then (λ job. jobs_on (jobs ++ job ∷ []) rest) (job_of text)

-- The jobs of the texts, if each is a job.
abbrev pub jobs_of : List Text → Option (List ℕ)
jobs_of texts = jobs_on [] texts

-- The text is no job.
abbrev pub is_name : Text → Bool
is_name text = is_none (job_of text)

-- The names so far, followed by those of the remaining texts that are no jobs.
abbrev pub names_on : List Text → List Text → List Text
names_on names [] = names
names_on names (text ∷ rest) = names_on (if is_name text then names ++ text ∷ [] else names) rest

abbrev pub names_among : List Text → List Text
names_among texts = names_on [] texts

abbrev pub with_job : List ℕ → Option ℕ → List ℕ
with_job jobs None = jobs
with_job jobs (Some job) = jobs ++ job ∷ []

-- The jobs so far, followed by those of the remaining texts that are jobs.
abbrev pub numbers_on : List ℕ → List Text → List ℕ
numbers_on jobs [] = jobs
numbers_on jobs (text ∷ rest) = numbers_on (with_job jobs (job_of text)) rest

abbrev pub jobs_among : List Text → List ℕ
jobs_among texts = numbers_on [] texts
