-- The last lines of replies, and the lines of `watch`.
use Rattle.std.specs.Prelude.{ℕ, Bool, ◌&&◌, cond, ◌==◌, List, codes, Option, None, Some}
use Rattle.std.specs.List.{before_first, after_first}
use Rattle.std.specs.Option.{option_map}
use Rattle.line_words.specs.Blanks.{first_word, after_word}
use Rattle.line_words.specs.DecimalNumbers.{decimal}
use Rattle.command_lines.specs.CommandGrammar.{job_in, queue_in}
use Rattle.front_texts.specs.ReplyFields.{is_word, is_end, count_in}
use Rattle.front_texts.specs.JobRows.{job_row}
use Rattle.front_texts.specs.QueueRows.{queue_row}
use Rattle.front_texts.specs.declared.job_line.JobLine.{JobLine}
use Rattle.front_texts.specs.declared.queue_line.QueueLine.{QueueLine}
use Rattle.front_texts.specs.declared.reply_lines.LastLine.{LastLine}
use Rattle.front_texts.specs.declared.reply_lines.LastLine.TheVariants.{Done, Refused, Failed}
use Rattle.front_texts.specs.declared.reply_lines.WatchLine.{WatchLine}
use Rattle.front_texts.specs.declared.reply_lines.WatchLine.TheVariants.{Job, Queue, GoneJob, GoneQueue, Missed}

-- ## The last line of a reply

-- A success, a refusal with a number, or an error.
pub data Last : Type 0 where
  done : List ℕ → Last
  refused : ℕ → List ℕ → Last
  failed : List ℕ → Last

abbrev pub last_of : LastLine → Last
last_of (Done words) = done words.now
last_of (Refused number name) = refused number name.now
last_of (Failed word) = failed word.now

abbrev pub is_space : ℕ → Bool
is_space b = b == 32

-- A number and a name, or the word of an error.
abbrev pub error_of : Option ℕ → List ℕ → List ℕ → Last
error_of None words name = failed words
error_of (Some number) words name = refused number name

abbrev pub error_line : List ℕ → Last
error_line words = error_of (count_in (before_first is_space words)) words (after_first is_space words)

abbrev pub last_line : List ℕ → Option Last
last_line line =
    cond (is_word (before_first is_space line) (codes "ok")) (Some (done (after_first is_space line)))
    (cond (is_word (before_first is_space line) (codes "error")) (Some (error_line (after_first is_space line)))
    None)

-- ## The last lines of `now` and `list`

-- The words `now SECONDS`.
abbrev pub moment_words : List ℕ → Option ℕ
moment_words words = cond (is_word (before_first is_space words) (codes "now")) (decimal 4000000000000 (after_first is_space words)) None

abbrev pub moment_as : Option Last → Option ℕ
moment_as (Some (done words)) = moment_words words
moment_as last = None

-- The time of the service.
abbrev pub now_in : List ℕ → Option ℕ
now_in line = moment_as (last_line line)

-- The words `more N`, which follow the number of jobs.
abbrev pub more_words : List ℕ → Option ℕ
more_words words = cond (is_word (before_first is_space words) (codes "more")) (decimal 2147483647 (after_first is_space words)) None

abbrev pub next_as : Option Last → Option ℕ
next_as (Some (done words)) = more_words (after_first is_space words)
next_as last = None

-- The number from which the listing goes on, if it does.
abbrev pub next_in : List ℕ → Option ℕ
next_in line = next_as (last_line line)

-- ## A line of `watch`

abbrev pub job_news : Option JobLine → Option WatchLine
job_news job = option_map (λ job. Job job) job

abbrev pub queue_news : Option QueueLine → Option WatchLine
queue_news queue = option_map (λ queue. Queue queue) queue

abbrev pub gone_job : Option ℕ → Option WatchLine
gone_job job = option_map (λ job. GoneJob job) job

abbrev pub gone_queue : Option (List ℕ) → Option WatchLine
gone_queue name = option_map (λ name. GoneQueue name) name

-- A job or a queue that was removed, from its kind and its name.
abbrev pub gone : List ℕ → List ℕ → Option WatchLine
gone kind name =
    cond (is_word kind (codes "job")) (gone_job (job_in name))
    (cond (is_word kind (codes "queue")) (gone_queue (queue_in name))
    None)

abbrev pub gone_line : List ℕ → Option WatchLine
gone_line line =
    let name = after_word line in
    cond (is_end (after_word name)) (gone (first_word line) (first_word name)) None

abbrev pub watch_line : List ℕ → Option WatchLine
watch_line line =
    cond (is_word (first_word line) (codes "job")) (job_news (job_row line))
    (cond (is_word (first_word line) (codes "queue")) (queue_news (queue_row line))
    (cond (is_word (first_word line) (codes "gone")) (gone_line (after_word line))
    (cond (is_word (first_word line) (codes "missed") && is_end (after_word line)) (Some Missed)
    None)))
