-- The reply to a drain is the number of its rounds, or the fault that ended it.
use Rattle.std.proofs.Common.{ap, refl, sym, ◌∙◌}
use Rattle.spool_engine.specs.AnswerTexts.{answer_text}
use Rattle.spool_engine.specs.EngineRounds.{counts_in, drain_line, line_told, results_of}
use Rattle.spool_engine.specs.Script.{drain_text}
use Rattle.spool_engine.proofs.DrainLaws.{drain_told, as_told}
use Rattle.spool_engine.proofs.printer.Printer.answer_drain.Goals as goal

pub returns-clause-answered : goal.returns-clause-answered
returns-clause-answered g c = λ m.
    let (rs, each, all, is) = c.drain-run.ensures.ran m in
    let q = counts_in (results_of rs) in
    let reply = line_told drain_text q in
    (rs, reply, record { each = each; all = all; text = refl }, as_told (answer_text c.drain-run.new.self.spool.state c.drain_answer.result) reply _ (drain_told q ∙ ap drain_line (sym is)) (c.drain_answer.ensures c.drain-run.new.self.spool.state))
