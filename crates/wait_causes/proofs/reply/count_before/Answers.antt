-- One more job was counted, or the job was found, or none is left.
use Rattle.std.proofs.Common.{ℕ, ◌-◌, List, length, take, ap, sym, ◌∙◌, arith}
use Rattle.wait_causes.specs.WaitCauses.{before}
use Rattle.wait_causes.proofs.CountLaws.{enough, found, next_counted, none_left}
use Rattle.wait_causes.proofs.reply.count_before.Goals as goal

pub loop-init : goal.loop-init
loop-init c = record {
  counted = let e = ap (λ (jobs : List ℕ). length (before c.args.job (take 1000 jobs))) c.jobs-jobs.ensures.numbers in omega (arith, e);
  few = omega arith;
}

pub loop-preserved : goal.loop-preserved
loop-preserved c = record {
  counted = next_counted c.args.job c.in-Some.other c.loop.jobs c.next.new.self c.loop.counter c.loop.count _ c.in-Some.ensures.steps c.loop-test.true (sym c.eq.ensures ∙ c.if-eq.false) c.loop.invariant.counted;
  few = omega (arith, c.loop.invariant.few);
}

pub returns-in_default-clause-count : goal.returns-in_default-clause-count
returns-in_default-clause-count c = none_left c.args.job c.loop.jobs (1000 - c.loop.counter) c.loop.count _ c.in_default.ensures.steps.0 c.loop.invariant.counted

pub returns-then-eq-clause-count : goal.returns-then-eq-clause-count
returns-then-eq-clause-count c = found c.args.job c.in-Some.other c.loop.jobs c.next.new.self c.loop.counter c.loop.count _ c.in-Some.ensures.steps c.loop-test.true (sym c.eq.ensures ∙ c.if-eq.true) c.loop.invariant.counted

pub returns-clause-count : goal.returns-clause-count
returns-clause-count c = enough c.args.job c.loop.jobs (1000 - c.loop.counter) c.loop.count _ (omega (arith, c.loop-test.false)) c.loop.invariant.counted
