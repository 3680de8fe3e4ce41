-- One event: the refusal, or the new state and the reply. A table with one row for each event.
use Rattle.std.specs.Prelude.{ℕ, ◌+◌, Bool, not, cond, List, [], ◌∷◌, length, nat_lt, Option, None, Some, Result, Ok, Err}
use Rattle.spool_types.specs.declared.phase.Phase.{Phase}
use Rattle.spool_types.specs.declared.phase.Phase.TheVariants.{Canceled}
use Rattle.spool_types.specs.declared.phase.Hold.TheVariants.{Free}
use Rattle.spool_types.specs.declared.event.Event.{Event}
use Rattle.spool_types.specs.declared.event.Event.TheVariants.{AddQueue, Info, SetAccept, SetStop, Create, CreateBy, Send, Close, Hold, Release, Cancel, Clock, Start, Stage, Abandon, Reopen, Purge}
use Rattle.spool_types.specs.declared.event.NewJob.{NewJob}
use Rattle.spool_types.specs.declared.event.Reply.{Reply}
use Rattle.spool_types.specs.declared.event.Reply.TheVariants.{Done, Number, Size, Phase as PhaseNow}
use Rattle.spool_types.specs.declared.refusal.Refusal.{Refusal}
use Rattle.spool_types.specs.declared.refusal.Refusal.TheVariants.{NotIncoming, TooLong, NotWaiting, NotNext, NotProcessing, WrongStage, NotHeld, NotEnded}
use Rattle.spool_types.specs.Limits.{longest_document}
use Rattle.spool_types.specs.Phases.{has_ended, is_incoming, is_processing, is_waiting, hold_of, is_in_force, hold_until}
use Rattle.spool_types.specs.State.{State, Job, job_at}
use Rattle.job_table.specs.Attempts.{is_next, is_in_stage, started, stage_verdict, lost_by}
use Rattle.job_table.specs.EventChanges.{new_queue, with_notes, with_accepting, with_stopped, new_job, with_bytes, ended, closed, held}
use Rattle.job_table.specs.Shapes.{Change, NewQueueRow, OfQueue, NewJobRow, OfJob, OfBoth, WithoutJob, OfClock, OfAll, made, causes_of, where_it}

-- The refusal of the first cause that applies.
abbrev pub first_cause : List (Bool × Refusal) → Option Refusal
first_cause [] = None
first_cause (c ∷ cs) = cond c.0 (Some c.1) (first_cause cs)

-- ## Terms of the rows

abbrev pub size_found : Option Job → ℕ
size_found None = 0
size_found (Some r) = r.size

-- The phase of a job. Every use of it is about a job that exists.
abbrev pub phase_found : Option Job → Phase
phase_found None = Canceled
phase_found (Some r) = r.phase

-- ## The table of events

-- A row: the shape of the change, the event's own causes of refusal in order, and the reply, which depends on the
-- tables before and after the event.
pub record Row : Type 0 where
  pub change : Change
  pub own : State → List (Bool × Refusal)
  pub reply : State → State → Reply

abbrev pub no_own : State → List (Bool × Refusal)
no_own s = []

-- The reply is the new phase of the job.
abbrev pub phase_then : ℕ → State → State → Reply
phase_then j s t = PhaseNow (phase_found (job_at t j))

abbrev pub row : Event → Row
row (AddQueue q) = record { change = NewQueueRow (new_queue q); own = no_own; reply = λ s t. Done }
row (Info notes) = record { change = OfQueue notes.queue (with_notes notes); own = no_own; reply = λ s t. Done }
row (SetAccept queue accepting) = record { change = OfQueue queue (with_accepting accepting); own = no_own; reply = λ s t. Done }
row (SetStop queue stopped) = record { change = OfQueue queue (with_stopped stopped); own = no_own; reply = λ s t. Done }
row (Create n) = record { change = NewJobRow (new_job n None); own = no_own; reply = λ s t. Number n.job }
row (CreateBy n by) = record { change = NewJobRow (new_job n (Some by)); own = no_own; reply = λ s t. Number n.job }
row (Send j bytes) = record {
  change = OfJob j (with_bytes bytes);
  own = λ s. where_it (job_at s j) (λ r. not (is_incoming r.phase)) NotIncoming
      ∷ where_it (job_at s j) (λ r. nat_lt longest_document (r.size + length bytes)) TooLong
      ∷ [];
  reply = λ s t. Size (size_found (job_at s j) + length bytes);
}
row (Close c) = record {
  change = OfJob c.job (closed c);
  own = λ s. where_it (job_at s c.job) (λ r. not (is_incoming r.phase)) NotIncoming
      ∷ [];
  reply = λ s t. Done;
}
row (Hold j until) = record {
  change = OfJob j (held (hold_until until));
  own = λ s. where_it (job_at s j) (λ r. is_processing r.phase) NotWaiting
      ∷ [];
  reply = λ s t. Done;
}
row (Release j) = record {
  change = OfJob j (held Free);
  own = λ s. where_it (job_at s j) (λ r. is_processing r.phase) NotWaiting
      ∷ where_it (job_at s j) (λ r. not (is_in_force s.moment (hold_of r.phase))) NotHeld
      ∷ [];
  reply = λ s t. Done;
}
row (Cancel j) = record { change = OfJob j (ended Canceled); own = no_own; reply = λ s t. Done }
row (Clock m) = record { change = OfClock m; own = no_own; reply = λ s t. Done }
row (Start j) = record {
  change = OfJob j started;
  own = λ s. where_it (job_at s j) (λ r. not (is_waiting r.phase)) NotWaiting
      ∷ where_it (job_at s j) (λ r. not (is_next s r)) NotNext
      ∷ [];
  reply = phase_then j;
}
row (Stage e) = record {
  change = OfBoth e.job (Some e.effects) (stage_verdict e.exit);
  own = λ s. where_it (job_at s e.job) (λ r. not (is_processing r.phase)) NotProcessing
      ∷ where_it (job_at s e.job) (λ r. not (is_in_stage e.attempt e.stage r.phase)) WrongStage
      ∷ [];
  reply = phase_then e.job;
}
row (Abandon j) = record {
  change = OfBoth j None lost_by;
  own = λ s. where_it (job_at s j) (λ r. not (is_processing r.phase)) NotProcessing
      ∷ [];
  reply = phase_then j;
}
row Reopen = record { change = OfAll; own = no_own; reply = λ s t. Done }
row (Purge j) = record {
  change = WithoutJob j;
  own = λ s. where_it (job_at s j) (λ r. not (has_ended r.phase)) NotEnded
      ∷ [];
  reply = λ s t. Done;
}

-- The event that creates a job. The job must start by a moment, if one is given.
abbrev pub creation : NewJob → Option ℕ → Event
creation n None = Create n
creation n (Some by) = CreateBy n by

-- ## The meaning of the table

-- The shape of an event's change.
abbrev pub change_by : Event → Change
change_by e = (row e).change

-- The causes of refusal of an event, in order.
abbrev pub causes : State → Event → List (Bool × Refusal)
causes s e = causes_of s (row e).change ((row e).own s)

abbrev pub refusal_of : State → Event → Option Refusal
refusal_of s e = first_cause (causes s e)

-- The state after an event that is not refused.
abbrev pub after : State → Event → State
after s e = made s (row e).change

-- The reply to an event that is not refused.
abbrev pub reply_to : State → Event → Reply
reply_to s e = (row e).reply s (after s e)

-- Step: the refusal of the first cause that applies, or the new state and the reply.
abbrev pub answered : State → Event → Option Refusal → Result (State × Reply) Refusal
answered s e None = Ok (after s e, reply_to s e)
answered s e (Some r) = Err r

abbrev pub step : State → Event → Result (State × Reply) Refusal
step s e = answered s e (refusal_of s e)

-- ## Answers

-- The reply of the step, or its refusal.
abbrev pub unless_refused_reply : State → Event → Option Refusal → Result Reply Refusal
unless_refused_reply s e None = Ok (reply_to s e)
unless_refused_reply s e (Some r) = Err r

-- The answer to an event.
abbrev pub answer_to : State → Event → Result Reply Refusal
answer_to s e = unless_refused_reply s e (refusal_of s e)
