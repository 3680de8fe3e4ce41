-- Each command gets its reply.
use Rattle.std.proofs.Common.{◌≡◌, ◌∙◌, ap, subst, sym, refl, codes, []}
use Rattle.std.specs.FinMap as finite
use Rattle.std.proofs.lemmas.Bool.{both_ways}
use Rattle.spool_types.specs.declared.refusal.Refusal.TheVariants.{TooLong}
use Rattle.command_lines.specs.Replies.{jobs_text, queues_text, refusal_line}
use Rattle.command_lines.specs.declared.command.Command.TheVariants.{Close, OversizedSend, Jobs, Queues, Malformed}
use Rattle.print_rounds.specs.RunStates.{RunState}
use Rattle.spool_engine.specs.AnswerTexts.{answer_text}
use Rattle.spool_engine.specs.EventSteps.{EventStep, setting}
use Rattle.spool_engine.specs.EngineRuns.{CommandStep}
use Rattle.spool_engine.specs.StagedSteps.{MayApply, TakesAs, TakesStepAs, is_staged}
use Rattle.spool_engine.specs.Script.{withholds}
use Rattle.spool_engine.proofs.DurabilityLaws.{event_lifted_as, listed_as, said_as, said_lifted_as, same_command_as}
use Rattle.spool_engine.proofs.printer.Printer.execute_plain.Goals as goal

pub returns-in-Apply : goal.returns-in-Apply
returns-in-Apply g c = record {
  may = c.take.ensures.may;
  taken = λ p.
      subst (λ d. (t : CommandStep g.row.D.Denot) × TakesStepAs c.args.durability (setting g.D.Disk.device c.args.mime.now p) c.args.self.now d t c.take.new.self × (answer_text c.take.new.self.spool.state c.take.result ≡ t.text)) (sym c.in-Apply.is)
      (c.take.ensures.taken c.args.mime.now p);
}

pub returns-in-Queue : goal.returns-in-Queue
returns-in-Queue g c = record {
  may = c.add_queue.ensures.may;
  taken = λ p.
      event_lifted_as c.args.durability (answer_text c.add_queue.new.self.state c.add_queue.result) _ c.self.inside.executor _ _ _ _ c.args.command c.self.view_is (ap (withholds _) c.in-Queue.is)
      (same_command_as c.args.durability (answer_text c.add_queue.new.self.state c.add_queue.result) _ c.self.inside.executor _ c.args.command _ c.in-Queue.is (c.add_queue.ensures.taken c.args.mime.now p));
}

pub returns-in-Create : goal.returns-in-Create
returns-in-Create g c = record {
  may = c.create.ensures.may;
  taken = λ p.
      event_lifted_as c.args.durability (answer_text c.create.new.self.state c.create.result) _ c.self.inside.executor _ _ _ _ c.args.command c.self.view_is (ap (withholds _) c.in-Create.is)
      (same_command_as c.args.durability (answer_text c.create.new.self.state c.create.result) _ c.self.inside.executor _ c.args.command _ c.in-Create.is (c.create.ensures.taken c.args.mime.now p));
}

pub returns-in-Close : goal.returns-in-Close
returns-in-Close g c = record {
  may = c.close.ensures.may;
  taken = λ p.
      let e = c.self.inside.executor in
      let v = setting g.D.Disk.device c.args.mime.now p in
      event_lifted_as c.args.durability (answer_text c.close.new.self.state c.close.result) _ e _ _ _ _ c.args.command c.self.view_is (ap (withholds _) c.in-Close.is)
      (same_command_as c.args.durability (answer_text c.close.new.self.state c.close.result) _ e _ c.args.command _ c.in-Close.is
      (subst (λ name. (t : EventStep g.row.D.Denot) × TakesAs c.args.durability v e (Close c.in-Close.job name) t c.close.new.self × (answer_text c.close.new.self.state c.close.result ≡ t.text)) c.as_str.ensures.value (c.close.ensures.taken p)));
}

pub returns-in-OversizedSend : goal.returns-in-OversizedSend
returns-in-OversizedSend g c = record {
  may = c.requires.may;
  taken = λ p.
      let s = c.args.self.now in
      said_lifted_as c.args.durability (refusal_line TooLong) _ s c.args.command (ap (withholds s.slots) c.in-OversizedSend.is)
      (same_command_as c.args.durability (refusal_line TooLong) _ s.spool _ c.args.command _ c.in-OversizedSend.is
      (said_as c.args.durability (refusal_line TooLong) (setting g.D.Disk.device c.args.mime.now p) s.spool OversizedSend (refusal_line TooLong) g.met.D.Disk.lawful c.met_fault-plain.ensures.plain c.requires.may (λ o. tt) (λ o. tt) refl refl));
}

pub returns-in-Jobs : goal.returns-in-Jobs
returns-in-Jobs g c = record {
  may = c.requires.may;
  taken = λ p.
      let e = c.self.inside.executor in
      let said = answer_text c.args.self.now.spool.state c.jobs.result in
      let listed_text = ap (λ (x : RunState g.row.D.Denot). answer_text x.spool.state c.jobs.result) (sym c.self.view_is) ∙ c.jobs.ensures.text in
      listed_as c.args.durability said _ e _ _ _ c.args.command c.self.view_is (ap (withholds _) c.in-Jobs.is)
      (same_command_as c.args.durability said _ e _ c.args.command _ c.in-Jobs.is
      (said_as c.args.durability said (setting g.D.Disk.device c.args.mime.now p) e Jobs (jobs_text e.state.moment (finite.values e.state.jobs)) g.met.D.Disk.lawful c.jobs.ensures.plain
      (subst (λ (s : RunState g.row.D.Denot). MayApply c.args.durability s.spool) (sym c.self.view_is) c.requires.may) (λ o. tt) (λ o. tt) refl listed_text));
}

pub returns-in-Queues : goal.returns-in-Queues
returns-in-Queues g c = record {
  may = c.requires.may;
  taken = λ p.
      let e = c.self.inside.executor in
      let said = answer_text c.args.self.now.spool.state c.queues.result in
      let listed_text = ap (λ (x : RunState g.row.D.Denot). answer_text x.spool.state c.queues.result) (sym c.self.view_is) ∙ c.queues.ensures.text in
      listed_as c.args.durability said _ e _ _ _ c.args.command c.self.view_is (ap (withholds _) c.in-Queues.is)
      (same_command_as c.args.durability said _ e _ c.args.command _ c.in-Queues.is
      (said_as c.args.durability said (setting g.D.Disk.device c.args.mime.now p) e Queues (queues_text (finite.values e.state.jobs) (finite.values e.state.queues)) g.met.D.Disk.lawful c.queues.ensures.plain
      (subst (λ (s : RunState g.row.D.Denot). MayApply c.args.durability s.spool) (sym c.self.view_is) c.requires.may) (λ o. tt) (λ o. tt) refl listed_text));
}

pub returns-in-Malformed : goal.returns-in-Malformed
returns-in-Malformed g c = record {
  may = c.requires.may;
  taken = λ p.
      let s = c.args.self.now in
      said_lifted_as c.args.durability (codes "error syntax\n") _ s c.args.command (ap (withholds s.slots) c.in-Malformed.is)
      (same_command_as c.args.durability (codes "error syntax\n") _ s.spool _ c.args.command _ c.in-Malformed.is
      (said_as c.args.durability (codes "error syntax\n") (setting g.D.Disk.device c.args.mime.now p) s.spool Malformed (codes "error syntax\n") g.met.D.Disk.lawful c.met_fault-plain.ensures.plain c.requires.may (λ o. tt) (λ o. tt) refl refl));
}
