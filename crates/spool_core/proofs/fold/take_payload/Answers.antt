-- Rows may not come any more.
use Rattle.std.proofs.Common.{subst}
use Rattle.spool_core.specs.Folding.{HasNoneNoted, HasRead, ReadLiesIn}
use Rattle.spool_core.proofs.FoldLaws.{if_ok, if_err, later_read, later_fault, event_lies, none_noted}
use Rattle.spool_core.proofs.fold.take_payload.Goals as goal

pub returns-in-Events-clause-next : goal.returns-in-Events-clause-next
returns-in-Events-clause-next c = if_ok c.add_event.result c.add_event.ensures.next
    (λ next is v base payloads has here. later_read v base payloads c.args.payload.now c.args.extent.place c.in-Events.table next (subst (λ r. HasRead v base r payloads) c.in-Events.is has) here is)

pub returns-in-Events-clause-lie : goal.returns-in-Events-clause-lie
returns-in-Events-clause-lie c = if_ok c.add_event.result c.add_event.ensures.next
    (λ next is low below lie. event_lies low c.args.extent.place c.args.extent.len c.args.payload.now c.in-Events.table next c.requires.long below is (subst (ReadLiesIn low c.args.extent.place) c.in-Events.is lie))

pub returns-in-Events-clause-fault : goal.returns-in-Events-clause-fault
returns-in-Events-clause-fault c = if_err c.add_event.result c.add_event.ensures.fault
    (λ fault is v base payloads has. later_fault v base payloads c.args.payload.now c.in-Events.table c.args.extent fault (subst (λ r. HasRead v base r payloads) c.in-Events.is has) is)

pub returns-in-Rows-clause-unmoved : goal.returns-in-Rows-clause-unmoved
returns-in-Rows-clause-unmoved c = if_ok c.take_row.result c.take_row.ensures.unmoved (λ next is none. is)

pub returns-in-Events-clause-unmoved : goal.returns-in-Events-clause-unmoved
returns-in-Events-clause-unmoved c = if_ok c.add_event.result c.add_event.ensures.next
    (λ next is none. none_noted c.in-Events.table c.args.payload.now c.args.extent.place next is (subst HasNoneNoted c.in-Events.is none))
