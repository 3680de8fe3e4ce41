-- An event with its reply, or a withheld purge.
use Rattle.std.proofs.Common.{sym, ap, subst, refl, ◌∙◌}
use Rattle.command_lines.specs.declared.command.Command.TheVariants.{Apply}
use Rattle.print_rounds.specs.RunStates.{RunState}
use Rattle.spool_engine.specs.AnswerTexts.{answer_text}
use Rattle.spool_engine.specs.EventSteps.{setting}
use Rattle.spool_engine.specs.StagedSteps.{MayApply}
use Rattle.spool_engine.specs.Script.{reply_line, withheld_line, withholds}
use Rattle.spool_engine.proofs.DurabilityLaws.{event_as, event_lifted_as, withheld_as}
use Rattle.spool_engine.proofs.printer.Printer.take.Goals as goal

pub returns-then-withholds : goal.returns-then-withholds
returns-then-withholds g c = record {
  may = c.requires.may;
  taken = λ m p.
      withheld_as c.args.durability withheld_line (setting g.D.Disk.device m p) c.args.self.now (Apply c.args.event) g.met.D.Disk.lawful c.met_fault-plain.ensures.plain c.requires.may (sym c.withholds.ensures ∙ c.if-withholds.true) refl;
}

pub execute_event-requires : goal.execute_event-requires
execute_event-requires g c = record { may = subst (λ (s : RunState g.row.D.Denot). MayApply c.args.durability s.spool) (sym c.self.view_is) c.requires.may }

pub returns-else-withholds : goal.returns-else-withholds
returns-else-withholds g c = record {
  may = c.execute_event.ensures.may;
  taken = λ m p.
      let e = c.self.inside.executor in
      let free = ap (λ (x : RunState g.row.D.Denot). withholds x.slots (Apply c.args.event)) c.self.view_is ∙ sym c.withholds.ensures ∙ c.if-withholds.false in
      event_lifted_as c.args.durability (answer_text c.execute_event.new.self.state c.execute_event.result) _ e _ _ _ _ (Apply c.args.event) c.self.view_is free
      (event_as c.args.durability (answer_text c.execute_event.new.self.state c.execute_event.result) (setting g.D.Disk.device m p) e _ (Apply c.args.event) c.args.event reply_line g.met.D.Disk.lawful (λ o. tt) (λ o. tt) refl c.execute_event.ensures.taken);
}
