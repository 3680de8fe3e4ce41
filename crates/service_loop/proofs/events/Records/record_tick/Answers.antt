-- One more event is recorded.
use Rattle.std.proofs.Common.{List, map, subst, arith}
use Rattle.std.proofs.lemmas.List.{take_all}
use Rattle.print_rounds.specs.declared.happenings.Happening.{Happening}
use Rattle.service_loop.specs.RecordedEvents.{HasRecordedAll, happened_deed}
use Rattle.service_loop.proofs.RecordLaws.{recorded_next}
use Rattle.service_loop.proofs.events.Records.record_tick.Goals as goal

pub loop-happening-preserved : goal.loop-happening-preserved
loop-happening-preserved c =
    recorded_next c.args.table.now.state c.args.self.now c.loop-happening.self c.record.new.self happened_deed c.args.happened.now c.loop-happening.happening-index c.happening-item.result c.deed_in.result
    c.loop-happening-test.true c.happening-item.is c.deed_in.ensures c.loop-happening.invariant c.record.ensures

pub returns : goal.returns
returns c =
    subst (λ (xs : List Happening). HasRecordedAll c.args.table.now.state c.args.self.now (map happened_deed xs) c.loop-happening.self)
    (take_all c.loop-happening.happening-index c.args.happened.now (omega (arith, c.loop-happening-test.false))) c.loop-happening.invariant
