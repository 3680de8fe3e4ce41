-- What a queue shows of what its children said. The effects of a child's standard error are folded into the row of the queue when its stage
-- ends (`EffectFold`), and the row keeps them. A client is shown those of the attempt that runs, and of others only what lasts.
use Rattle.std.specs.Prelude.{ℕ, Bool, false, ◌||◌, ◌&&◌, cond, nat_eq, nat_lt, List, [], ◌++◌, codes, filter, length, Option, None, Some, is_some}
use Rattle.std.specs.FinMap as finite
use Rattle.std.specs.List.{flat_map, starts_with}
use Rattle.client_standing.specs.ClientStanding.{ClientStanding, sees_all}
use Rattle.command_lines.specs.Replies.{counted_line, queue_text}
use Rattle.job_table.specs.Attempts.{busy_of}
use Rattle.spool_types.specs.State.{State, Job, job_at}
use Rattle.spool_types.specs.declared.phase.Phase.{Phase}
use Rattle.spool_types.specs.declared.phase.Phase.TheVariants.{Incoming, Waiting, Processing, Completed, Canceled, Aborted}
use Rattle.spool_types.specs.declared.rows.QueueRow.{QueueRow}

-- ## The attempt that runs

-- A stage of the attempt has ended, so the row may have what its child said. In the first stage the row has nothing of it.
abbrev pub has_spoken_in : Phase → Bool
has_spoken_in (Incoming hold) = false
has_spoken_in (Waiting hold not_before first) = false
has_spoken_in (Processing attempt stage stages) = nat_lt 1 stage
has_spoken_in Completed = false
has_spoken_in Canceled = false
has_spoken_in (Aborted reason) = false

abbrev pub has_spoken_by : Option Job → Bool
has_spoken_by None = false
has_spoken_by (Some r) = has_spoken_in r.phase

abbrev pub has_spoken_at : State → Option ℕ → Bool
has_spoken_at s None = false
has_spoken_at s (Some job) = has_spoken_by (job_at s job)

-- An attempt runs in the queue, and a stage of it has ended.
abbrev pub has_spoken : State → List ℕ → Bool
has_spoken s name = has_spoken_at s (busy_of s name)

-- ## What is shown

-- The reasons that describe the printer's supplies and media, as `marker-supply-low-warning` and `media-empty-error`. They outlive an
-- attempt, as the attributes of the queue do.
abbrev pub is_lasting : List ℕ → Bool
is_lasting reason = starts_with nat_eq reason (codes "marker-") || starts_with nat_eq reason (codes "media-")

abbrev pub shown_reasons : Bool → List (List ℕ) → List (List ℕ)
shown_reasons spoken reasons = cond spoken reasons (filter is_lasting reasons)

-- A message may quote the title of any job, so it is shown only to clients that see all titles.
abbrev pub shown_message : ClientStanding → Bool → List ℕ → List ℕ
shown_message c spoken message = cond (spoken && sees_all c) message []

-- The queue's row as the client sees it.
abbrev pub shown_row : ClientStanding → Bool → QueueRow → QueueRow
shown_row c spoken q = record q { reasons = shown_reasons spoken q.reasons; message = shown_message c spoken q.message }

-- Its line of the listing.
abbrev pub shown_queue_line : ClientStanding → State → QueueRow → List ℕ
shown_queue_line c s q = queue_text (is_some (busy_of s q.name)) (shown_row c (has_spoken s q.name) q)

abbrev pub shown_queue_lines : ClientStanding → State → List QueueRow → List ℕ
shown_queue_lines c s queues = flat_map (shown_queue_line c s) queues

-- All queues.
abbrev pub all_queues_shown : ClientStanding → State → List ℕ
all_queues_shown c s = shown_queue_lines c s (finite.values s.queues) ++ counted_line (length (finite.values s.queues))
