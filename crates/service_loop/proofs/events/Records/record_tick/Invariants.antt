-- The events so far are recorded.
use Rattle.std.proofs.Common.{map, take}
use Rattle.service_loop.specs.RecordedEvents.{HasRecordedAll, happened_deed}
use Rattle.service_loop.proofs.events.Records.record_tick.Given as goal

abbrev pub invariant-loop-happening : goal.invariant-loop-happening
invariant-loop-happening l = HasRecordedAll l.table.state l.fn.self (map happened_deed (take l.happening-index l.happened)) l.self
