-- The named event, and then the jobs that the clock changed.
use Rattle.std.proofs.Common.{List, ℕ, map, subst}
use Rattle.service_loop.specs.RecordedEvents.{HasRecordedAll, due_deed}
use Rattle.service_loop.proofs.RecordLaws.{recorded_then}
use Rattle.service_loop.proofs.events.Records.record_expected.Goals as goal

pub returns : goal.returns
returns c =
    recorded_then _ _ _ c.record_listed.new.self _ _ c.record_listed.ensures
    (subst (λ (js : List ℕ). HasRecordedAll c.args.table.now.state c.record_listed.new.self (map due_deed js) c.record_due.new.self) c.deref.ensures.value c.record_due.ensures)
