-- The jobs that a submission searches for.
use Rattle.std.specs.Prelude.{ℕ, Bool, ◌&&◌, ◌==◌, cond, List, codes, string_bytes, Option, None, Some}
use Rattle.std.specs.List.{after_first}
use Rattle.command_lines.specs.CommandGrammar.{is_word}
use Rattle.front_submission.specs.declared.reply.Found.{Found}
use Rattle.front_submission.specs.declared.reply.Own.{Own}
use Rattle.front_submission.specs.declared.reply.Shown.{Shown}
use Rattle.front_submission.specs.declared.reply.Shown.TheVariants.{Arriving}
use Rattle.front_texts.specs.JobRows.{job_row}
use Rattle.front_texts.specs.declared.job_line.JobLine.{JobLine}
use Rattle.service_replies.specs.ServiceReplies.{has_reason}
use Rattle.spool_front.specs.declared.commands.Draft.{Draft}

-- The job is incoming and has the draft's queue and this owner.
abbrev pub may_be_own : Draft → List ℕ → JobLine → Bool
may_be_own draft owner job =
    has_reason (codes "job-incoming") job.reason
    && (is_word job.queue (string_bytes draft.queue) && is_word job.user owner)

abbrev pub own_as : Draft → List ℕ → Option JobLine → Option ℕ
own_as draft owner None = None
own_as draft owner (Some job) = cond (may_be_own draft owner job) (Some job.number) None

-- The number of the job in a row, if it may be the submission's own.
abbrev pub own_job : Draft → List ℕ → List ℕ → Option ℕ
own_job draft owner row = own_as draft owner (job_row row)

abbrev pub is_equals : ℕ → Bool
is_equals b = b == 61

-- The first job is the submission's own. Any other one is surplus.
abbrev pub found_as : Option Own → Option ℕ → ℕ → ℕ → Found
found_as None another job size = record { own = Some (record { job = job; size = size }); another = another }
found_as (Some own) another job size = record { own = Some own; another = Some job }

abbrev pub with_job : Found → ℕ → ℕ → Found
with_job found job size = found_as found.own found.another job size

-- The value of an option: what follows its first `=`.
abbrev pub token_of : List ℕ → List ℕ
token_of option = after_first is_equals option

-- The job with the token, if it is incoming.
abbrev pub found_one : ℕ → Shown → Found
found_one job (Arriving size) = record { own = Some (record { job = job; size = size }); another = None }
found_one job shown = record { own = None; another = None }
