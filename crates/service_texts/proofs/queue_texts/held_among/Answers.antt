-- One more job was searched, or all were.
use Rattle.std.proofs.Common.{ℕ, ◌+◌, ◌-◌, List, map, take, ap, arith}
use Rattle.service_texts.specs.QueueShown.{held_among}
use Rattle.service_texts.proofs.QueueAnswers.{enough, next_held, none_left}
use Rattle.service_texts.proofs.queue_texts.held_among.Goals as goal

pub loop-init : goal.loop-init
loop-init c = record {
  counted = let e = ap (λ (jobs : List ℕ). held_among c.args.table.now.state (take 1000 jobs)) c.jobs-jobs.ensures.numbers in omega (arith, e);
  few = omega arith;
}

pub loop-preserved : goal.loop-preserved
loop-preserved c = record {
  counted =
      next_held c.args.table.now.state c.in-Some.job c.loop.jobs c.next.new.self c.loop.counter (c.loop.counter + 1) c.loop.held (c.loop.held + c.held_count-held.result)
      (held_among c.args.table.now.state (take 1000 (map (λ e. e.id) c.args.index.now.items)))
      c.in-Some.ensures.steps c.loop-test.true (omega arith) (ap (λ n. c.loop.held + n) c.held_count-held.ensures.value) c.loop.invariant.counted;
  few = omega (arith, c.loop.invariant.few, c.held_count-held.ensures.at_most);
}

pub returns-in_default : goal.returns-in_default
returns-in_default c = none_left c.args.table.now.state c.loop.jobs (1000 - c.loop.counter) c.loop.held _ c.in_default.ensures.steps.0 c.loop.invariant.counted

pub returns : goal.returns
returns c = enough c.args.table.now.state c.loop.jobs (1000 - c.loop.counter) c.loop.held _ (omega (arith, c.loop-test.false)) c.loop.invariant.counted
