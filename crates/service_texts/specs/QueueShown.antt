-- The reply about one queue.
use Rattle.std.specs.Prelude.{◌≡◌, ℕ, Bool, false, ◌&&◌, cond, nat_lt, List, [], ◌++◌, codes, length, map, take, Option, None, Some, is_some}
use Rattle.std.specs.Fmt.{decimal}
use Rattle.std.specs.FinMap as finite
use Rattle.std.specs.List.{count_by, flat_map}
use Rattle.client_standing.specs.ClientStanding.{ClientStanding, shows_uri}
use Rattle.command_lines.specs.Replies.{quoted, reasons_word}
use Rattle.job_table.specs.Attempts.{busy_of}
use Rattle.queue_sayings.specs.QueueSayings.{has_spoken, shown_row}
use Rattle.queue_sched.specs.WaitingIndex.{InOrder, IsIndexOf}
use Rattle.queue_sched.specs.declared.entry.Entry.{Entry}
use Rattle.spool_types.specs.Phases.{hold_of, is_in_force, policy_word, printer_state}
use Rattle.spool_types.specs.State.{State, Job, job_at, queue_at}
use Rattle.spool_types.specs.declared.effect.Attribute.{Attribute}
use Rattle.spool_types.specs.declared.rows.QueueRow.{QueueRow}
use Rattle.service_texts.specs.Shown.{time_word}
use Rattle.service_texts.specs.declared.queue_texts.QueueCounts.{QueueCounts}

-- ## Its jobs

-- The maximum number of waiting jobs that are searched for held jobs.
abbrev pub most_searched : ℕ
most_searched = 1000

abbrev pub is_held : ℕ → Option Job → Bool
is_held now None = false
is_held now (Some r) = is_in_force now (hold_of r.phase)

-- The number of held jobs among these.
abbrev pub held_among : State → List ℕ → ℕ
held_among s jobs = count_by (λ j. is_held s.moment (job_at s j)) jobs

-- The waiting jobs of the queue in the order in which they are printed: how many there are, and how many of the first ones are held.
pub record AreCounts (s : State) (name : List ℕ) (counts : QueueCounts) : Type 0 where
  pub entries : List Entry
  pub index : IsIndexOf (finite.values s.jobs) name entries
  pub order : InOrder entries
  pub waiting : counts.waiting ≡ length entries
  pub held : counts.held ≡ held_among s (take most_searched (map (λ e. e.id) entries))

-- ## The lines

abbrev pub yes_or_no : Bool → List ℕ
yes_or_no so = cond so (codes "yes") (codes "no")

-- A name and its answer.
abbrev pub answer_line : List ℕ → Bool → List ℕ
answer_line name so = name ++ codes " " ++ yes_or_no so ++ codes "\n"

abbrev pub uri_line : ClientStanding → QueueRow → List ℕ
uri_line c q = cond (shows_uri c) (codes "uri " ++ q.uri ++ codes "\n") []

abbrev pub queue_device : ClientStanding → QueueRow → List ℕ
queue_device c q = codes "queue " ++ q.name ++ codes "\n" ++ uri_line c q ++ codes "type " ++ q.target ++ codes "\n"

abbrev pub queue_policy : QueueRow → List ℕ
queue_policy q =
    codes "policy " ++ policy_word q.policy ++ codes "\ninterval " ++ decimal q.interval ++ codes "\nlimit " ++ decimal q.limit ++ codes "\n"

abbrev pub queue_descriptions : QueueRow → List ℕ
queue_descriptions q = codes "info " ++ quoted q.info ++ codes "\nlocation " ++ quoted q.location ++ codes "\n"

-- Whether it accepts jobs, its state, whether it is stopped, and whether a job is still processing although it is stopped.
abbrev pub queue_state : Bool → QueueRow → List ℕ
queue_state busy q =
    answer_line (codes "accepting") q.accepting
    ++ codes "state " ++ decimal (printer_state busy q.stopped) ++ codes "\n"
    ++ answer_line (codes "stopped") q.stopped
    ++ answer_line (codes "stopping") (q.stopped && busy)

abbrev pub queue_reasons : QueueRow → List ℕ
queue_reasons q = codes "reasons " ++ reasons_word q.reasons ++ codes "\nmessage " ++ quoted q.message ++ codes "\n"

abbrev pub attribute_line : Attribute → List ℕ
attribute_line a = codes "attribute " ++ a.name ++ codes " " ++ quoted a.value ++ codes "\n"

abbrev pub attribute_lines : List Attribute → List ℕ
attribute_lines attributes = flat_map attribute_line attributes

-- If not all waiting jobs were searched, how many were.
abbrev pub searched_text : ℕ → List ℕ
searched_text waiting = cond (nat_lt most_searched waiting) (codes " of " ++ decimal most_searched) []

abbrev pub counts_lines : QueueCounts → List ℕ
counts_lines n = codes "waiting " ++ decimal n.waiting ++ codes "\nheld " ++ decimal n.held ++ searched_text n.waiting ++ codes "\n"

-- The job that prints, if any.
abbrev pub printing_line : Option ℕ → List ℕ
printing_line None = []
printing_line (Some job) = codes "printing " ++ decimal job ++ codes "\n"

abbrev pub changed_line : Option ℕ → List ℕ
changed_line time = codes "changed " ++ time_word time ++ codes "\n"

-- ## The reply

abbrev pub queue_row : ClientStanding → Bool → QueueRow → List ℕ
queue_row c busy q = queue_device c q ++ queue_policy q ++ queue_descriptions q ++ queue_state busy q ++ queue_reasons q ++ attribute_lines q.attributes

abbrev pub queue_progress : QueueCounts → Option ℕ → Option ℕ → List ℕ
queue_progress counts printing changed = counts_lines counts ++ printing_line printing ++ changed_line changed

abbrev pub no_queue : List ℕ
no_queue = codes "error queue\n"

-- The queue as the client sees it, with these counts, the job that prints and the moment of its last change.
abbrev pub queue_fields : ClientStanding → QueueCounts → Option ℕ → Option ℕ → QueueRow → List ℕ
queue_fields c counts printing changed q = queue_row c (is_some printing) q ++ queue_progress counts printing changed ++ codes "ok 1\n"

abbrev pub IsQueueShown : ClientStanding → Option ℕ → State → List ℕ → Option QueueRow → List ℕ → Type 0
IsQueueShown c changed s name None text = text ≡ no_queue
IsQueueShown c changed s name (Some q) text =
    (counts : QueueCounts) × AreCounts s name counts × (text ≡ queue_fields c counts (busy_of s name) changed (shown_row c (has_spoken s name) q))

-- The reply to a client, about a queue that changed last at this moment.
abbrev pub IsShownQueue : ClientStanding → Option ℕ → State → List ℕ → List ℕ → Type 0
IsShownQueue c changed s name text = IsQueueShown c changed s name (queue_at s name) text
