-- The engine executes the command, and nothing else changes it. Its accepted events are recorded.
use Rattle.std.proofs.Common.{Option, ap, subst, ◌∙◌}
use Rattle.spool_types.specs.State.{State}
use Rattle.event_records.specs.declared.deeds.Deed.{Deed}
use Rattle.service_loop.specs.RecordedEvents.{AreDueTo, HasRecordedAll, accepted_deeds, command_deed}
use Rattle.service_loop.proofs.shared.Shared.execute.Goals as goal

pub returns-clause-executed : goal.returns-clause-executed
returns-clause-executed g c = c.execute-answer.ensures.executed

pub returns-clause-recorded : goal.returns-clause-recorded
returns-clause-recorded g c =
    let due = c.in_ok-expected.expected.due.items in
    let answer = c.execute-answer.result in
    let old = c.args.self.now.records in
    let new = c.record_command.new.self in
    let after = c.execute-answer.new.engine.run_state.spool.state in (
      due,
      subst (λ (t : State). AreDueTo t c.args.command due) c.table.ensures c.in_ok-expected.ensures.due,
      subst (λ (d : Option Deed). HasRecordedAll after old (accepted_deeds d due answer) new) (c.in_ok-expected.ensures.deed ∙ ap (λ (t : State). command_deed t c.args.command) c.table.ensures)
          (subst (λ (t : State). HasRecordedAll t old (accepted_deeds c.in_ok-expected.expected.deed due answer) new) c.table-3.ensures c.record_command.ensures),
    )

pub returns-clause-calls : goal.returns-clause-calls
returns-clause-calls g c = c.execute-answer.ensures.calls c.args.self.now.most
