-- The reply to a round is its counts or its fault.
use Rattle.std.proofs.Common.{[], ◌∷◌, refl}
use Rattle.spool_engine.specs.AnswerTexts.{answer_text}
use Rattle.spool_engine.specs.EngineRounds.{Ran, counts_in, line_told}
use Rattle.spool_engine.specs.Script.{round_text}
use Rattle.spool_engine.proofs.DrainLaws.{one_run, round_told, as_told}
use Rattle.spool_engine.proofs.printer.Printer.answer_round.Goals as goal

pub returns-clause-answered : goal.returns-clause-answered
returns-clause-answered g c = λ m.
    let (settled, tried, documents, one) = c.round-ran.ensures.round m in
    let r : Ran g.row.D.Denot = record { settled = settled; next = c.round-ran.new.self; result = c.round-ran.result; tried = tried; documents = documents } in
    let reply = line_told round_text (counts_in (r.result ∷ [])) in
    (r ∷ [], reply, one_run _ _ r reply one refl, as_told (answer_text c.round-ran.new.self.spool.state c.round_answer.result) reply _ (round_told c.round-ran.result) (c.round_answer.ensures c.round-ran.new.self.spool.state))
