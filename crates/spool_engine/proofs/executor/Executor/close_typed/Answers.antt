-- If the spool is not asked, it does not change. Otherwise it is asked for this event, and the answer is the reply to it.
use Rattle.std.proofs.Common.{ap, refl, subst, sym, Err, Result, ◌∙◌}
use Rattle.spool_types.specs.declared.event.Closing.{Closing}
use Rattle.spool_types.specs.declared.event.Reply.{Reply}
use Rattle.spool_core.specs.declared.spool.apply_fault.ApplyFault.{ApplyFault}
use Rattle.spool_types.specs.declared.event.Event.TheVariants.{Close}
use Rattle.spool_core.specs.declared.spool.apply_fault.ApplyFault.TheVariants.{Memory}
use Rattle.spool_engine.specs.EventAnswers.{event_line}
use Rattle.spool_engine.specs.StagedSteps.{IsAppliedAs}
use Rattle.spool_engine.specs.Script.{closing_line, closing_of}
use Rattle.spool_engine.proofs.DurabilityLaws.{unasked_as}
use Rattle.spool_engine.proofs.executor.Executor.close_typed.Goals as goal

pub returns-in-Err : goal.returns-in-Err
returns-in-Err g c =
    let s = c.args.self.now in
    let n = closing_of c.args.mime.now s.state c.args.document.now c.args.job c.args.name.now in
    record {
      may = c.requires.may;
      taken = (Err Memory, unasked_as c.args.durability g.D.Disk.device s (Close n) Memory g.met.D.Disk.lawful c.met_fault-plain.ensures.plain c.requires.may (c.requires.alive, c.requires.accepted n refl, refl), c.fault_answer.ensures s.state);
    }

pub returns-in-Ok-take : goal.returns-in-Ok-take
returns-in-Ok-take g c =
    let s = c.args.self.now in
    let n = closing_of c.args.mime.now s.state c.args.document.now c.args.job c.args.name.now in
    let reply = c.in-Ok-take.field-0 in
    record {
      may = c.take.ensures.may;
      taken = (
        c.take.result,
        subst (λ (e : Closing). IsAppliedAs c.args.durability g.D.Disk.device s (Close e) c.take.result c.take.new.self) c.in-Ok.ensures.closing c.take.ensures.taken,
        c.in-Ok.ensures.answer c.take.new.self.state reply
            ∙ ap (λ (e : Closing). closing_line e reply) c.in-Ok.ensures.closing
            ∙ ap (λ (answer : Result Reply ApplyFault). event_line (closing_line n) answer) (sym c.in-Ok-take.is),
      );
    }
