-- The tokens that a command concerns, and the jobs whose clients have disconnected.
use Rattle.std.specs.Prelude.{ℕ, ⊤, cond, is_some, nat_eq, List, [], ◌∷◌, Option, None, Some}
use Rattle.std.specs.Cmp.Lexicographic.{pointwise}
use Rattle.std.specs.Option.{option_map}
use Rattle.command_lines.specs.declared.command.Command.{Command}
use Rattle.command_lines.specs.declared.command.Command.TheVariants as commands
use Rattle.command_lines.specs.declared.reply.Answer.{Answer}
use Rattle.command_lines.specs.declared.reply.Answer.TheVariants.{Created, Sent}
use Rattle.service_texts.specs.LeftJobs.{touched, with_left}
use Rattle.service_texts.specs.SubmissionTokens.{HasPlace, left_for, token_of}
use Rattle.service_texts.specs.declared.left_jobs.LeftJob.{LeftJob}
use Rattle.service_texts.specs.declared.tokens.Tokens.{Tokens}
use Rattle.spool_types.specs.State.{State, Job, job_at}
use Rattle.spool_types.specs.declared.event.Event.{Event}
use Rattle.spool_types.specs.declared.event.Event.TheVariants.{Purge, Send}

-- The token of a job with these options, which a command creates.
abbrev pub created_token : List ℕ → Option (List ℕ × Option ℕ)
created_token options = option_map (λ token. (token, None)) (token_of options)

-- The token of a job that a command purges, and its number.
abbrev pub purged_token : ℕ → Option Job → Option (List ℕ × Option ℕ)
purged_token job None = None
purged_token job (Some r) = option_map (λ token. (token, Some job)) (token_of r.options)

abbrev pub event_token : State → Event → Option (List ℕ × Option ℕ)
event_token s (Purge job) = purged_token job (job_at s job)
event_token s event = None

abbrev pub expected_token : State → Command → Option (List ℕ × Option ℕ)
expected_token s (commands.Create creation) = created_token creation.options
expected_token s (commands.Apply event) = event_token s event
expected_token s command = None

-- The token of a job that a command creates has a place, so that the job can be noted.
abbrev pub HasRoom : Tokens → List ℕ → Option ℕ → Type 0
HasRoom tokens token None = HasPlace tokens token
HasRoom tokens token (Some job) = ⊤

-- ## The entry for a token after a command, by its answer and the table after it

-- A created job is noted.
abbrev pub created_for : Answer → List ℕ → List ℕ → Option ℕ → Option ℕ
created_for (Created job) token expected entry = cond (pointwise nat_eq expected token) (Some job) entry
created_for answer token expected entry = entry

-- A purged job is forgotten if it is gone.
abbrev pub purged_for : State → List ℕ → List ℕ → ℕ → Option ℕ → Option ℕ
purged_for s token expected job entry = cond (is_some (job_at s job)) entry (left_for token entry expected job)

abbrev pub settled_for : State → Answer → List ℕ → List ℕ → Option ℕ → Option ℕ → Option ℕ
settled_for s answer token expected None entry = created_for answer token expected entry
settled_for s answer token expected (Some job) entry = purged_for s token expected job entry

-- A command that concerns no token changes no entry.
abbrev pub entry_after : State → Option (List ℕ × Option ℕ) → Answer → List ℕ → Option ℕ → Option ℕ
entry_after s None answer token entry = entry
entry_after s (Some (expected, purged)) answer token entry = settled_for s answer token expected purged entry

-- ## The job that a command sends bytes of

abbrev pub event_sent_to : Event → Option ℕ
event_sent_to (Send job bytes) = Some job
event_sent_to event = None

abbrev pub job_sent_to : Command → Option ℕ
job_sent_to (commands.Apply event) = event_sent_to event
job_sent_to command = None

-- ## The jobs whose clients have disconnected

-- The client of these jobs disconnected at this moment.
abbrev pub all_noted : State → ℕ → List LeftJob → List ℕ → List LeftJob
all_noted s since left [] = left
all_noted s since left (job ∷ jobs) = all_noted s since (with_left s left job since) jobs

-- If an answer reports that bytes were sent to a job, its age restarts at this moment.
abbrev pub left_after : ℕ → Option ℕ → Answer → List LeftJob → List LeftJob
left_after now (Some job) (Sent size) left = touched left job now
left_after now job answer left = left
