-- What the service records of the events that its engine accepts.
use Rattle.std.specs.Prelude.{◌≡◌, ℕ, Bool, false, cond, List, [], ◌∷◌, ◌++◌, map, Option, None, Some}
use Rattle.spool_types.specs.Phases.{is_processing}
use Rattle.spool_types.specs.State.{State, Job, job_at}
use Rattle.spool_types.specs.declared.event.Event.{Event}
use Rattle.spool_types.specs.declared.event.Event.TheVariants.{Cancel, Clock}
use Rattle.command_lines.specs.declared.command.Command.{Command}
use Rattle.command_lines.specs.declared.command.Command.TheVariants as commands
use Rattle.command_lines.specs.declared.reply.Answer.{Answer}
use Rattle.command_lines.specs.declared.reply.Answer.TheVariants as answers
use Rattle.print_rounds.specs.declared.happenings.Happening.{Happening}
use Rattle.print_rounds.specs.declared.happenings.Happening.TheVariants as happenings
use Rattle.event_records.specs.Deeds.{deed_of, moves_queue}
use Rattle.event_records.specs.NumberedChanges.{NumberedChanges, HasNoted}
use Rattle.event_records.specs.SeenTimes.{HasSeen, HasSeenQueue}
use Rattle.event_records.specs.declared.changes.Subject.{Subject}
use Rattle.event_records.specs.declared.changes.Subject.TheVariants as subjects
use Rattle.event_records.specs.declared.deeds.Deed.{Deed}
use Rattle.event_records.specs.declared.deeds.Deed.TheVariants as deeds
use Rattle.event_records.specs.declared.deeds.JobDeed.TheVariants as jobs
use Rattle.event_records.specs.declared.deeds.QueueDeed.{QueueDeed}
use Rattle.event_records.specs.declared.deeds.QueueDeed.TheVariants as queues
use Rattle.event_records.specs.declared.seen.Seen.{Seen}
use Rattle.service_loop.specs.Due.{AreChangedJobs}
use Rattle.service_loop.specs.declared.events.Records.{Records}

-- ## One event

-- The queue of a job, if the event also changes how the queue is shown.
abbrev pub queue_moved : Bool → Option Job → Option (List ℕ)
queue_moved moves None = None
queue_moved moves (Some r) = cond moves (Some r.queue) None

abbrev pub listed_queue : Option (List ℕ) → List Subject
listed_queue None = []
listed_queue (Some name) = subjects.Queue name ∷ []

-- What an event changes, over the table after it: its job or its queue, and no other.
abbrev pub subjects_of : State → Deed → List Subject
subjects_of s (deeds.Job job deed) = subjects.Job job ∷ listed_queue (queue_moved (moves_queue deed) (job_at s job))
subjects_of s (deeds.Queue name deed) = subjects.Queue name ∷ []

-- These changes were noted in order. If memory ran out for a name, all earlier ones are forgotten.
abbrev pub HaveNoted : NumberedChanges → List Subject → NumberedChanges → Type 0
HaveNoted old [] new = new ≡ old
HaveNoted old (x ∷ xs) new = (mid : NumberedChanges) × HasNoted old x mid × HaveNoted mid xs new

abbrev pub HasSeenMove : Option ℕ → Seen → Option (List ℕ) → Seen → Type 0
HasSeenMove now old None new = new ≡ old
HasSeenMove now old (Some name) new = HasSeenQueue old name now new

-- The descriptions of a queue are no part of its state.
abbrev pub HasSeenQueueDeed : Option ℕ → Seen → List ℕ → QueueDeed → Seen → Type 0
HasSeenQueueDeed now old name queues.Added new = HasSeenQueue old name now new
HasSeenQueueDeed now old name queues.Described new = new ≡ old
HasSeenQueueDeed now old name queues.Accepts new = HasSeenQueue old name now new
HasSeenQueueDeed now old name queues.Rejects new = HasSeenQueue old name now new
HasSeenQueueDeed now old name queues.Stopped new = HasSeenQueue old name now new
HasSeenQueueDeed now old name queues.Resumed new = HasSeenQueue old name now new

-- The times of its job, and of the queue whose state it changed.
abbrev pub HasSeenDeed : State → Option ℕ → Seen → Deed → Seen → Type 0
HasSeenDeed s now old (deeds.Job job deed) new =
    (mid : Seen) × HasSeen old (record { job = job; deed = deed; row = job_at s job; now = now }) mid × HasSeenMove now mid (queue_moved (moves_queue deed) (job_at s job)) new
HasSeenDeed s now old (deeds.Queue name deed) new = HasSeenQueueDeed now old name deed new

-- An event is recorded, over the table after it.
pub record HasRecorded (s : State) (old : Records) (deed : Deed) (new : Records) : Type 0 where
  pub changes : HaveNoted old.changes (subjects_of s deed) new.changes
  pub seen : HasSeenDeed s old.now old.seen deed new.seen
  pub now : new.now ≡ old.now
  pub told : new.told ≡ old.told

abbrev pub HasRecordedAll : State → Records → List Deed → Records → Type 0
HasRecordedAll s old [] new = new ≡ old
HasRecordedAll s old (deed ∷ deeds) new = (mid : Records) × HasRecorded s old deed mid × HasRecordedAll s mid deeds new

-- ## A command

abbrev pub is_processing_row : Option Job → Bool
is_processing_row None = false
is_processing_row (Some r) = is_processing r.phase

-- A cancel of a processing job ends its attempt.
abbrev pub interrupts : State → Event → Bool
interrupts s (Cancel job) = is_processing_row (job_at s job)
interrupts s e = false

-- What a command does if its event is accepted. The number of a job that it creates is not known before.
abbrev pub command_deed : State → Command → Option Deed
command_deed s (commands.Apply e) = deed_of (interrupts s e) e
command_deed s (commands.Queue q) = Some (deeds.Queue q.name queues.Added)
command_deed s (commands.Close job name) = Some (deeds.Job job jobs.Closed)
command_deed s c = None

-- The jobs that an event changes without naming them: those that a Clock changes, in any order.
abbrev pub AreDueBy : State → Event → List ℕ → Type 0
AreDueBy s (Clock moment) due = AreChangedJobs s moment due
AreDueBy s e due = due ≡ []

abbrev pub AreDueTo : State → Command → List ℕ → Type 0
AreDueTo s (commands.Apply e) due = AreDueBy s e due
AreDueTo s c due = due ≡ []

abbrev pub listed_deed : Option Deed → List Deed
listed_deed None = []
listed_deed (Some deed) = deed ∷ []

abbrev pub due_deed : ℕ → Deed
due_deed job = deeds.Job job jobs.Due

-- What a command did, by its answer: nothing, unless its event was accepted.
abbrev pub accepted_deeds : Option Deed → List ℕ → Answer → List Deed
accepted_deeds deed due (answers.Created job) = deeds.Job job jobs.Created ∷ []
accepted_deeds deed due answers.Done = listed_deed deed ++ map due_deed due
accepted_deeds deed due (answers.Sent size) = listed_deed deed ++ map due_deed due
accepted_deeds deed due (answers.Closed media stages) = listed_deed deed ++ map due_deed due
accepted_deeds deed due answer = []

-- The events of a command that found the first table and left the second are recorded, and no others.
abbrev pub HasRecordedCommand : State → State → Command → Answer → Records → Records → Type 0
HasRecordedCommand s s' command answer old new = (due : List ℕ) × AreDueTo s command due × HasRecordedAll s' old (accepted_deeds (command_deed s command) due answer) new

-- ## A tick

abbrev pub happened_deed : Happening → Deed
happened_deed (happenings.Started job) = deeds.Job job jobs.Started
happened_deed (happenings.Ended job) = deeds.Job job jobs.Ended
