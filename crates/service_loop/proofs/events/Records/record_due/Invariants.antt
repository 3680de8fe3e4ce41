-- The jobs so far are recorded.
use Rattle.std.proofs.Common.{map, take}
use Rattle.service_loop.specs.RecordedEvents.{HasRecordedAll, due_deed}
use Rattle.service_loop.proofs.events.Records.record_due.Given as goal

abbrev pub invariant-loop-job : goal.invariant-loop-job
invariant-loop-job l = HasRecordedAll l.table.state l.fn.self (map due_deed (take l.job-index l.jobs)) l.self
