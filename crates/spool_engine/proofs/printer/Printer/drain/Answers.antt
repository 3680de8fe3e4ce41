-- One more round, or the last one.
use Rattle.std.proofs.Common.{◌≡◌, ◌+◌, [], ◌∷◌, ◌++◌, length, Ok, suc, refl, sym, ap, ◌∙◌, arith}
use Rattle.spool_engine.specs.EngineRounds.{Ran, is_last, rounds_run}
use Rattle.spool_engine.proofs.DrainLaws.{ran_more, busy_more, length_more, all_at, all_last, run_busy, run_more, counts_fault}
use Rattle.spool_engine.proofs.printer.Printer.drain.Goals as goal

pub loop-run-init : goal.loop-run-init
loop-run-init g c = ((λ m. ([], refl, tt, refl)), c.requires.settled)

pub loop-run-preserved : goal.loop-run-preserved
loop-run-preserved g c = (
  λ m.
      let (rs, each, busy, count) = c.loop-run.invariant.0 m in
      let (settled, tried, documents, one) = c.round.ensures.round m in
      let r : Ran g.row.D.Denot = record { settled = settled; next = c.round.new.self; result = c.round.result; tried = tried; documents = documents } in
      (rs ++ r ∷ [], ran_more _ _ _ rs r each one, busy_more rs r busy (ap is_last c.in-Ok.is ∙ sym c.if-is_idle.ensures), length_more rs r ∙ ap (λ n. n + 1) count),
  c.round.ensures.settled,
)

pub returns-then-is_idle : goal.returns-then-is_idle
returns-then-is_idle g c = record {
  settled = c.round.ensures.settled;
  ran = λ m.
      let (rs, each, busy, count) = c.loop-run.invariant.0 m in
      let (settled, tried, documents, one) = c.round.ensures.round m in
      let r : Ran g.row.D.Denot = record { settled = settled; next = c.round.new.self; result = c.round.result; tried = tried; documents = documents } in (
        rs ++ r ∷ [],
        ran_more _ _ _ rs r each one,
        all_last c.args.most rs r busy (let less = c.loop-run-test.true in let end = c.get-run-end.ensures in omega (arith, count, less, end)) (ap is_last c.in-Ok.is ∙ sym c.if-is_idle.ensures),
        sym (run_more rs r c.in-Ok.round busy c.in-Ok.is ∙ (let e : suc (length rs) ≡ c.loop-run.run + 1 = omega (arith, count) in ap Ok e)),
      );
}

pub returns-in-Err : goal.returns-in-Err
returns-in-Err g c = record {
  settled = c.round.ensures.settled;
  ran = λ m.
      let (rs, each, busy, count) = c.loop-run.invariant.0 m in
      let (settled, tried, documents, one) = c.round.ensures.round m in
      let r : Ran g.row.D.Denot = record { settled = settled; next = c.round.new.self; result = c.round.result; tried = tried; documents = documents } in (
        rs ++ r ∷ [],
        ran_more _ _ _ rs r each one,
        all_last c.args.most rs r busy (let less = c.loop-run-test.true in let end = c.get-run-end.ensures in omega (arith, count, less, end)) (ap is_last c.in-Err.is),
        sym (ap rounds_run (counts_fault rs r c.in-Err.fault busy c.in-Err.is)),
      );
}

pub returns : goal.returns
returns g c = record {
  settled = c.loop-run.invariant.1;
  ran = λ m.
      let (rs, each, busy, count) = c.loop-run.invariant.0 m in
      let all : length rs ≡ c.args.most = let most = c.loop-run-test.false in let least = c.loop-run.auto.run-end in let end = c.get-run-end.ensures in omega (arith, count, most, least, end) in
      (rs, each, all_at c.args.most rs busy all, sym (run_busy rs busy ∙ ap Ok (all ∙ sym c.get.ensures.value)));
}
