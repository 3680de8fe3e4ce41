-- Jobs with their ages.
use Rattle.std.specs.Prelude.{ℕ, Bool, ◌-◌, ◌/◌, cond, nat_le, nat_lt, List, [], ◌∷◌, ◌++◌, codes, Option, None, Some, Vec}
use Rattle.std.specs.Fmt.{decimal}
use Rattle.std.specs.Global.{Global}
use Rattle.line_words.specs.Blanks.{first_word}
use Rattle.front_texts.specs.ReplyFields.{is_word}
use Rattle.front_texts.specs.JobPage.{shown_job}
use Rattle.front_texts.specs.declared.aged_jobs.AgedJob.{AgedJob}
use Rattle.front_texts.specs.declared.job_line.JobLine.{JobLine}
use Rattle.front_texts.specs.declared.job_shown.JobAsked.{JobAsked}
use Rattle.front_texts.specs.declared.job_shown.JobShown.{JobShown}
use Rattle.front_texts.specs.declared.job_shown.JobStatus.{JobStatus}
use Rattle.front_texts.specs.declared.job_times.TimeShown.{TimeShown}
use Rattle.front_texts.specs.declared.job_times.TimeShown.TheVariants.{At, Unknown}

-- The seconds from the creation of a job to a time, if both are known. A job that was created later has the age 0.
abbrev pub age_at : ℕ → TimeShown → Option ℕ
age_at now (At moment) = Some (now - moment)
age_at now Unknown = None

abbrev pub age_of : Option ℕ → Option TimeShown → Option ℕ
age_of (Some now) (Some created) = age_at now created
age_of now created = None

-- The seconds from a time to a later moment.
abbrev pub left_until : Option ℕ → Option ℕ → Option ℕ
left_until (Some now) (Some moment) = cond (nat_lt now moment) (Some (moment - now)) None
left_until now moment = None

abbrev pub first_left : Option ℕ → Option ℕ → Option ℕ
first_left None attempt = attempt
first_left (Some hold) attempt = Some hold

-- The seconds until the hold of a job ends, or else until its next attempt is due.
abbrev pub left_of : Option ℕ → JobStatus → Option ℕ
left_of now job_status = first_left (left_until now job_status.hold_until) (left_until now job_status.not_before)

-- A job as a row of `jobs`.
abbrev pub line_of : JobAsked → JobStatus → JobLine
line_of asked job_status = record {
  number = asked.number;
  queue = asked.queue;
  state = job_status.state;
  reason = job_status.reason;
  user = asked.user;
  size = job_status.size;
  pages = job_status.pages;
  title = asked.title;
}

-- A job with its age at a time, and what it waits for then.
abbrev pub aged : Option ℕ → JobShown → AgedJob
aged now job = record {
  line = line_of job.asked job.job_status;
  age = age_of now job.times.created;
  left = left_of now job.job_status;
}

-- ## The reply to `list`

abbrev pub aged_by : Option ℕ → Option JobShown → List AgedJob
aged_by now None = []
aged_by now (Some job) = aged now job ∷ []

-- The job in these rows, each with its line feed, if they are those of a job.
unfoldable pub aged_in : Option ℕ → List ℕ → List AgedJob
aged_in now fields = aged_by now (shown_job fields)

-- The first row of a job.
abbrev pub is_first : List ℕ → Bool
is_first row = is_word (first_word row) (codes "job")

-- The job in the rows before this one, if this is the first row of another job.
abbrev pub ended_before : Option ℕ → List ℕ → List ℕ → List AgedJob
ended_before now fields row = cond (is_first row) (aged_in now fields) []

-- The rows before this one that are of the same job.
abbrev pub kept : List ℕ → List ℕ → List ℕ
kept fields row = cond (is_first row) [] fields

-- The rows of a job up to this one.
abbrev pub fields_with : List ℕ → List ℕ → List ℕ
fields_with fields row = kept fields row ++ row ++ codes "\n"

-- The jobs in rows, of which these fields precede them.
abbrev pub aged_after : Option ℕ → List ℕ → List (Vec ℕ Global) → List AgedJob
aged_after now fields [] = aged_in now fields
aged_after now fields (row ∷ rows) = ended_before now fields row.items ++ aged_after now (fields_with fields row.items) rows

-- Each job begins with a row `job N`. A job whose rows are invalid is left out.
abbrev pub aged_jobs : Option ℕ → List (Vec ℕ Global) → List AgedJob
aged_jobs now rows = aged_after now [] rows

-- ## An age in words

abbrev pub counted : ℕ → List ℕ → List ℕ
counted count unit = decimal count ++ codes " " ++ unit

-- In seconds, minutes, hours or days, rounded down.
abbrev pub age_words : ℕ → List ℕ
age_words seconds =
    cond (nat_le seconds 59) (counted seconds (codes "s"))
    (cond (nat_le seconds 3599) (counted (seconds / 60) (codes "min"))
    (cond (nat_le seconds 172799) (counted (seconds / 3600) (codes "h"))
    (counted (seconds / 86400) (codes "d"))))
