-- What an accepted event did to a job or to a queue.
use Rattle.std.specs.Prelude.{ℕ, Bool, cond, true, false, Option, None, Some}
use Rattle.spool_types.specs.declared.event.Event.{Event}
use Rattle.spool_types.specs.declared.event.Event.TheVariants as events
use Rattle.event_records.specs.declared.deeds.Deed.{Deed}
use Rattle.event_records.specs.declared.deeds.Deed.TheVariants as deeds
use Rattle.event_records.specs.declared.deeds.JobDeed.{JobDeed}
use Rattle.event_records.specs.declared.deeds.JobDeed.TheVariants as jobs
use Rattle.event_records.specs.declared.deeds.QueueDeed.TheVariants as queues

-- What an event does, row by row. `processing` is whether the event is about a job that is processing. A Clock does something to each job
-- that it changes, and a Reopen precedes every service.
abbrev pub deed_of : Bool → Event → Option Deed
deed_of processing (events.AddQueue queue) = Some (deeds.Queue queue.name queues.Added)
deed_of processing (events.Info notes) = Some (deeds.Queue notes.queue queues.Described)
deed_of processing (events.SetAccept queue accepting) = Some (deeds.Queue queue (cond accepting queues.Accepts queues.Rejects))
deed_of processing (events.SetStop queue stopped) = Some (deeds.Queue queue (cond stopped queues.Stopped queues.Resumed))
deed_of processing (events.Create job) = Some (deeds.Job job.job jobs.Created)
deed_of processing (events.CreateBy job by) = Some (deeds.Job job.job jobs.Created)
deed_of processing (events.Send job bytes) = Some (deeds.Job job jobs.Sent)
deed_of processing (events.Close closing) = Some (deeds.Job closing.job jobs.Closed)
deed_of processing (events.Hold job until) = Some (deeds.Job job jobs.Held)
deed_of processing (events.Release job) = Some (deeds.Job job jobs.Released)
deed_of processing (events.Cancel job) = Some (deeds.Job job (cond processing jobs.Interrupted jobs.Canceled))
deed_of processing (events.Clock moment) = None
deed_of processing (events.Start job) = Some (deeds.Job job jobs.Started)
deed_of processing (events.Stage end) = Some (deeds.Job end.job jobs.Ended)
deed_of processing (events.Abandon job) = Some (deeds.Job job jobs.Abandoned)
deed_of processing events.Reopen = None
deed_of processing (events.Purge job) = Some (deeds.Job job jobs.Purged)

-- The event also changes how the job's queue is shown: whether a job of it is processing, or its row.
abbrev pub moves_queue : JobDeed → Bool
moves_queue jobs.Created = false
moves_queue jobs.Sent = false
moves_queue jobs.Closed = false
moves_queue jobs.Held = false
moves_queue jobs.Released = false
moves_queue jobs.Canceled = false
moves_queue jobs.Interrupted = true
moves_queue jobs.Started = true
moves_queue jobs.Ended = true
moves_queue jobs.Abandoned = true
moves_queue jobs.Due = false
moves_queue jobs.Purged = false
