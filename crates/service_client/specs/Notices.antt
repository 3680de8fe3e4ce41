-- The lines of a watched service, and their effect on a mirror of its jobs and queues.
use Rattle.std.specs.Prelude.{ℕ, ◌-◌, ◌==◌, Bool, true, cond, List, [], ◌∷◌, codes, Option, None, Some}
use Rattle.line_words.specs.Blanks.{first_word, after_word}
use Rattle.line_words.specs.DecimalNumbers.{decimal}
use Rattle.service_client.specs.Replies.{is_word}

-- A job or a queue has this row from now on, or is gone; or notices were left out; or a listing ends, or was refused; or a group of notices
-- ends with this change.
pub data Said : Type 0 where
  job_is : ℕ → Said
  queue_is : List ℕ → Said
  job_gone : ℕ → Said
  queue_gone : List ℕ → Said
  left_out : Said
  listed : Said
  refused : Said
  changed : ℕ → Said
  other : Said

abbrev pub greatest_job : ℕ
greatest_job = 4294967295

abbrev pub greatest_change : ℕ
greatest_change = 9999999999999

abbrev pub with_number : (ℕ → Said) → Option ℕ → Said
with_number said None = other
with_number said (Some number) = said number

-- A name has at least one byte.
abbrev pub with_name : (List ℕ → Said) → List ℕ → Said
with_name said [] = other
with_name said (b ∷ bs) = said (b ∷ bs)

abbrev pub gone_said : List ℕ → List ℕ → Said
gone_said kind name =
    cond (is_word kind (codes "job")) (with_number job_gone (decimal greatest_job name))
    (cond (is_word kind (codes "queue")) (with_name queue_gone name)
    other)

-- From the first word of a line, the second, and the third.
abbrev pub said_by : List ℕ → List ℕ → List ℕ → Said
said_by kind name third =
    cond (is_word kind (codes "job")) (with_number job_is (decimal greatest_job name))
    (cond (is_word kind (codes "queue")) (with_name queue_is name)
    (cond (is_word kind (codes "gone")) (gone_said name third)
    (cond (is_word kind (codes "change")) (with_number changed (decimal greatest_change name))
    (cond (is_word kind (codes "missed")) left_out
    (cond (is_word kind (codes "ok")) listed
    (cond (is_word kind (codes "error")) refused
    other))))))

abbrev pub said_of : List ℕ → Said
said_of line = said_by (first_word line) (first_word (after_word line)) (first_word (after_word (after_word line)))

-- ## The fold of the lines

-- The row of a job after a line.
abbrev pub job_after : Said → List ℕ → ℕ → Option (List ℕ) → Option (List ℕ)
job_after (job_is number) line job row = cond (number == job) (Some line) row
job_after (job_gone number) line job row = cond (number == job) None row
job_after said line job row = row

-- The row of a queue after a line.
abbrev pub queue_after : Said → List ℕ → List ℕ → Option (List ℕ) → Option (List ℕ)
queue_after (queue_is name) line queue row = cond (is_word name queue) (Some line) row
queue_after (queue_gone name) line queue row = cond (is_word name queue) None row
queue_after said line queue row = row

-- The state of a mirror: how many listings have not come, and whether all rows must be listed again.
pub record Known : Type 0 where
  pub awaited : ℕ
  pub stale : Bool

-- After notices were left out, or a listing was refused, the rows must be listed again.
abbrev pub known_after : Said → Known → Known
known_after left_out known = record { awaited = known.awaited; stale = true }
known_after listed known = record { awaited = known.awaited - 1; stale = known.stale }
known_after refused known = record { awaited = known.awaited - 1; stale = true }
known_after said known = known

abbrev pub jobs_after : List (List ℕ) → ℕ → Option (List ℕ) → Option (List ℕ)
jobs_after [] job row = row
jobs_after (line ∷ lines) job row = jobs_after lines job (job_after (said_of line) line job row)

abbrev pub queues_after : List (List ℕ) → List ℕ → Option (List ℕ) → Option (List ℕ)
queues_after [] queue row = row
queues_after (line ∷ lines) queue row = queues_after lines queue (queue_after (said_of line) line queue row)

abbrev pub known_after_all : List (List ℕ) → Known → Known
known_after_all [] known = known
known_after_all (line ∷ lines) known = known_after_all lines (known_after (said_of line) known)
