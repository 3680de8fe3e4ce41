-- A job is created if its options can be stored.
use Rattle.std.proofs.Common.{refl, sym, ap, subst, ◌∙◌, codes}
use Rattle.std.specs.Result.{IsOk}
use Rattle.job_table.specs.Step.{creation}
use Rattle.filter_args.specs.OptionTexts.{reading}
use Rattle.command_lines.specs.declared.command.Command.TheVariants.{Create}
use Rattle.spool_engine.specs.AnswerTexts.{answer_text}
use Rattle.spool_engine.specs.EventSteps.{setting}
use Rattle.spool_engine.specs.Script.{asks, job_options, reply_line}
use Rattle.spool_engine.proofs.DurabilityLaws.{event_as, said_as, unread_as}
use Rattle.spool_engine.proofs.EventLaws.{create_event, no_create_event}
use Rattle.spool_engine.proofs.executor.Executor.create.Goals as goal

pub returns-in-Ok-Some : goal.returns-in-Ok-Some
returns-in-Ok-Some g c = record {
  taken = λ m p.
      let s = c.args.self.now in
      let n = c.args.creation in
      let kept = ap job_options (sym c.as_str.ensures.value) ∙ sym c.in-Ok-Some.ensures.value ∙ c.in-Ok-Some.field-0-is in
      let is = create_event m s.state n c.in-Ok-Some.options kept
      ∙ ap (λ j. asks (creation (record { queue = n.queue; job = j; user = n.user; title = n.title; copies = n.copies; priority = n.priority; options = c.in-Ok-Some.options }) n.by) reply_line) (sym c.next_number.ensures)
      ∙ ap (λ j. asks (creation j n.by) reply_line) (sym c.new_job-job.ensures)
      ∙ ap (λ e. asks e reply_line) (sym c.event_of_creation.ensures) in
      event_as c.args.durability (answer_text c.execute_event.new.self.state c.execute_event.result) (setting g.D.Disk.device m p) s _ (Create n) c.event_of_creation.result reply_line g.met.D.Disk.lawful (λ o. tt) (λ o. tt) is c.execute_event.ensures.taken;
  may = c.execute_event.ensures.may;
}

pub returns-in-Ok-None : goal.returns-in-Ok-None
returns-in-Ok-None g c = record {
  taken = λ m p.
      let s = c.args.self.now in
      let n = c.args.creation in
      let is = no_create_event m s.state n (ap job_options (sym c.as_str.ensures.value) ∙ sym c.in-Ok-None.ensures.value ∙ c.in-Ok-None.field-0-is) in
      said_as c.args.durability (codes "error options\n") (setting g.D.Disk.device m p) s (Create n) (codes "error options\n") g.met.D.Disk.lawful c.met_fault-plain.ensures.plain c.requires.may (λ o. tt) (λ o. tt) is refl;
  may = c.requires.may;
}

pub returns-in-Err : goal.returns-in-Err
returns-in-Err g c = record {
  taken = λ m p.
      unread_as c.args.durability (codes "error memory\n") (setting g.D.Disk.device m p) c.args.self.now (Create c.args.creation) g.met.D.Disk.lawful c.met_fault-plain.ensures.plain c.requires.may (λ o. tt) (λ o. tt) (subst (λ text. IsOk (reading text)) c.as_str.ensures.value c.in-Err.ensures.memory) refl;
  may = c.requires.may;
}
