-- Each command gets its reply.
use Rattle.std.proofs.Common.{ap, refl, subst, sym, []}
use Rattle.command_lines.specs.declared.command.Command.TheVariants.{Checkpoint}
use Rattle.spool_core.specs.OpenSpools.{IsSettled as NoneStaged}
use Rattle.print_rounds.specs.RunStates.{RunState}
use Rattle.spool_engine.specs.AnswerTexts.{answer_text}
use Rattle.spool_engine.specs.EventSteps.{setting}
use Rattle.spool_engine.specs.Script.{meaning, round_text, drain_text, withholds}
use Rattle.spool_engine.proofs.EventLaws.{listing_told, same_command}
use Rattle.spool_engine.proofs.RoundLaws.{event_lifted, rounds_turn}
use Rattle.spool_engine.proofs.printer.Printer.execute.Goals as goal

pub returns-in-Round : goal.returns-in-Round
returns-in-Round g c =
    let s = c.args.self.now in
    record {
      settled = c.answer_round.ensures.settled;
      executed = rounds_turn (setting g.D.Disk.device c.args.mime.now c.args.place.now) g.met.D.Disk.lawful.only_now (answer_text c.answer_round.new.self.spool.state c.answer_round.result) s _ c.args.command 1 round_text (c.met_fault-plain.ensures.plain.kept c.requires.settled) (ap (meaning c.args.mime.now s.spool.state []) c.in-Round.is) (c.answer_round.ensures.answered c.args.mime.now);
    }

pub returns-in-Drain : goal.returns-in-Drain
returns-in-Drain g c =
    let s = c.args.self.now in
    record {
      settled = c.answer_drain.ensures.settled;
      executed = rounds_turn (setting g.D.Disk.device c.args.mime.now c.args.place.now) g.met.D.Disk.lawful.only_now (answer_text c.answer_drain.new.self.spool.state c.answer_drain.result) s _ c.args.command c.in-Drain.most drain_text (c.met_fault-plain.ensures.plain.kept c.requires.settled) (ap (meaning c.args.mime.now s.spool.state []) c.in-Drain.is) (c.answer_drain.ensures.answered c.args.mime.now);
    }

pub checkpoint-requires : goal.checkpoint-requires
checkpoint-requires g c = record { settled = subst (λ (s : RunState g.row.D.Denot). NoneStaged s.spool) (sym c.self.view_is) c.requires.settled }

pub returns-in-Checkpoint : goal.returns-in-Checkpoint
returns-in-Checkpoint g c =
    let e = c.self.inside.executor in
    record {
      settled = c.checkpoint.ensures.settled;
      executed = event_lifted (answer_text c.checkpoint.new.self.state c.checkpoint.result) _ e _ _ _ _ c.args.command c.self.view_is (ap (withholds _) c.in-Checkpoint.is)
          (same_command (answer_text c.checkpoint.new.self.state c.checkpoint.result) _ e _ c.args.command _ c.in-Checkpoint.is
          (listing_told (answer_text c.checkpoint.new.self.state c.checkpoint.result) (setting g.D.Disk.device c.args.mime.now c.args.place.now) e _ Checkpoint (λ o. tt) refl refl c.checkpoint.ensures.listed));
    }

pub returns-in_default : goal.returns-in_default
returns-in_default g c = record { settled = c.execute_plain.ensures.may; executed = c.execute_plain.ensures.taken c.args.place.now }
