-- The engine executes the event that it returned.
use Rattle.std.proofs.Common.{◌≡◌, subst}
use Rattle.spool_types.specs.declared.event.Closing.{Closing}
use Rattle.spool_types.specs.declared.event.Event.TheVariants.{Close}
use Rattle.spool_types.specs.declared.event.Reply.TheVariants.{Done}
use Rattle.command_lines.specs.declared.command.Command.TheVariants.{Apply}
use Rattle.spool_engine.specs.AnswerTexts.{answer_text}
use Rattle.spool_engine.specs.StagedSteps.{TakesStagingStep}
use Rattle.spool_engine.specs.EventSteps.{setting}
use Rattle.service_loop.specs.ClientActions.{closed_answer}
use Rattle.service_loop.proofs.shared.Shared.close_as.Goals as goal

pub returns-clause-executed : goal.returns-clause-executed
returns-clause-executed g c =
    let e = c.args.self.now.engine in
    let after = c.execute.new.self.engine.run_state in
    let answer = c.in_ok-answer.answer in
    let is = c.in_ok-closing.ensures.closing in
    let (t, takes, same) = c.in_ok-answer.ensures.executed in (
      t,
      subst (λ (k : Closing). TakesStagingStep (setting g.D.Disk.device e.mime e.place) e.run_state (Apply (Close k)) t after) is takes,
      answer,
      same,
      subst (λ (k : Closing). answer_text after.spool.state c.closing_answer.result ≡ closed_answer k after.spool.state answer) is
          (c.closing_answer.ensures c.in_ok-closing.closing after.spool.state (c.in_ok-closing.ensures.answer after.spool.state Done)),
    )
