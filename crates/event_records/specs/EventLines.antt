-- The lines of the log about accepted events.
use Rattle.std.specs.Prelude.{ℕ, ◌+◌, ◌/◌, ◌%◌, ◌==◌, Bool, true, false, ◌&&◌, not, cond, List, [], ◌∷◌, ◌++◌, codes, Option, None, Some}
use Rattle.std.specs.Fmt.{decimal}
use Rattle.std.specs.List.{flat_map}
use Rattle.spool_types.specs.Phases.{abort_reason_word, hold_reason_word, hold_of, is_processing}
use Rattle.spool_types.specs.State.{Job}
use Rattle.spool_types.specs.Values.{is_graphic}
use Rattle.spool_types.specs.declared.phase.Phase.{Phase}
use Rattle.spool_types.specs.declared.phase.Phase.TheVariants.{Incoming, Waiting, Processing, Completed, Canceled, Aborted}
use Rattle.spool_types.specs.declared.phase.Hold.{Hold}
use Rattle.spool_types.specs.declared.phase.Hold.TheVariants.{Free, Indefinite, Until}
use Rattle.event_records.specs.declared.deeds.JobDeed.{JobDeed}
use Rattle.event_records.specs.declared.deeds.JobDeed.TheVariants as jobs
use Rattle.event_records.specs.declared.deeds.QueueDeed.{QueueDeed}
use Rattle.event_records.specs.declared.deeds.QueueDeed.TheVariants as queues

-- ## Names

-- Three octal digits.
abbrev pub octal : ℕ → List ℕ
octal b = (b / 64 + 48) ∷ (b / 8 % 8 + 48) ∷ (b % 8 + 48) ∷ []

-- Printable, and neither a space nor a backslash.
abbrev pub is_clear : ℕ → Bool
is_clear b = is_graphic b && not (b == 92)

-- Any other byte is written as a backslash and three octal digits (VIS_OCTAL of vis(3)). So a name is one word without control characters.
abbrev pub clear_byte : ℕ → List ℕ
clear_byte b = cond (is_clear b) (b ∷ []) (92 ∷ octal b)

abbrev pub clear_name : List ℕ → List ℕ
clear_name name = flat_map clear_byte name

-- ## Jobs

-- An outcome with its cause.
abbrev pub because : List ℕ → List ℕ → List ℕ
because outcome cause = outcome ++ codes " (" ++ cause ++ codes ")"

abbrev pub held_text : Hold → List ℕ
held_text Free = codes "held"
held_text (Indefinite reason) = because (codes "held") (hold_reason_word reason)
held_text (Until moment) = because (codes "held") (codes "until " ++ decimal moment)

-- After a failed attempt the job waits again, perhaps held.
abbrev pub again_text : ℕ → Hold → List ℕ
again_text attempt Free = codes "attempt " ++ decimal attempt ++ codes " failed"
again_text attempt (Indefinite reason) = held_text (Indefinite reason)
again_text attempt (Until moment) = codes "attempt " ++ decimal attempt ++ codes " failed"

abbrev pub aborted_text : List ℕ → List ℕ
aborted_text reason = because (codes "aborted") reason

-- The end of an attempt, by the phase after it. A stage that is followed by another has no line.
abbrev pub ended_text : ℕ → Phase → List ℕ
ended_text attempts (Incoming hold) = []
ended_text attempts (Waiting hold not_before first) = again_text attempts hold
ended_text attempts (Processing attempt stage stages) = []
ended_text attempts Completed = codes "completed"
ended_text attempts Canceled = because (codes "canceled") (codes "backend")
ended_text attempts (Aborted reason) = aborted_text (abort_reason_word reason)

abbrev pub typed_text : Option (List ℕ) → List ℕ
typed_text None = codes "closed"
typed_text (Some media) = because (codes "closed") media

-- A job that cannot be printed is aborted when it is closed.
abbrev pub closed_text : Option (List ℕ) → Phase → List ℕ
closed_text media (Incoming hold) = typed_text media
closed_text media (Waiting hold not_before first) = typed_text media
closed_text media (Processing attempt stage stages) = typed_text media
closed_text media Completed = typed_text media
closed_text media Canceled = typed_text media
closed_text media (Aborted reason) = aborted_text (abort_reason_word reason)

abbrev pub released_text : List ℕ
released_text = because (codes "released") (codes "hold ended")

-- The clock has canceled the job, which should have started by then, or ended its hold.
abbrev pub due_text : Phase → List ℕ
due_text (Incoming hold) = released_text
due_text (Waiting hold not_before first) = released_text
due_text (Processing attempt stage stages) = released_text
due_text Completed = released_text
due_text Canceled = because (codes "canceled") (codes "not started in time")
due_text (Aborted reason) = released_text

-- The outcome of an event, by the row after it: nothing if it has no line.
abbrev pub outcome_text : JobDeed → Job → List ℕ
outcome_text jobs.Created r = codes "created"
outcome_text jobs.Sent r = []
outcome_text jobs.Closed r = closed_text r.media r.phase
outcome_text jobs.Held r = held_text (hold_of r.phase)
outcome_text jobs.Released r = codes "released"
outcome_text jobs.Canceled r = codes "canceled"
outcome_text jobs.Interrupted r = because (codes "canceled") (codes "processing")
outcome_text jobs.Started r = because (codes "started") (codes "attempt " ++ decimal r.attempts)
outcome_text jobs.Ended r = ended_text r.attempts r.phase
outcome_text jobs.Abandoned r = ended_text r.attempts r.phase
outcome_text jobs.Due r = due_text r.phase
outcome_text jobs.Purged r = codes "purged"

-- The job, its queue and its user.
abbrev pub subject_text : Job → List ℕ
subject_text r = codes "job " ++ decimal r.id ++ codes " on " ++ r.queue ++ codes " by " ++ clear_name r.user ++ codes ": "

-- The line about a job.
abbrev pub job_event_line : JobDeed → Job → List ℕ
job_event_line deed r = subject_text r ++ outcome_text deed r

-- The line about a job whose row was removed.
abbrev pub purge_event_line : ℕ → List ℕ
purge_event_line job = codes "job " ++ decimal job ++ codes ": purged"

-- ## Queues

abbrev pub queue_outcome : QueueDeed → List ℕ
queue_outcome queues.Added = codes "added"
queue_outcome queues.Described = codes "described"
queue_outcome queues.Accepts = codes "accepts jobs"
queue_outcome queues.Rejects = codes "rejects jobs"
queue_outcome queues.Stopped = codes "stopped"
queue_outcome queues.Resumed = codes "started"

abbrev pub queue_event_line : QueueDeed → List ℕ → List ℕ
queue_event_line deed name = codes "queue " ++ name ++ codes ": " ++ queue_outcome deed

-- ## Which events have a line

abbrev pub has_line : JobDeed → Phase → Bool
has_line jobs.Created phase = true
has_line jobs.Sent phase = false
has_line jobs.Closed phase = true
has_line jobs.Held phase = true
has_line jobs.Released phase = true
has_line jobs.Canceled phase = true
has_line jobs.Interrupted phase = true
has_line jobs.Started phase = true
has_line jobs.Ended phase = not (is_processing phase)
has_line jobs.Abandoned phase = not (is_processing phase)
has_line jobs.Due phase = true
has_line jobs.Purged phase = true
