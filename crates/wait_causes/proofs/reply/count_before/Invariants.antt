-- The jobs not yet counted.
use Rattle.std.proofs.Common.{◌≡◌, ◌+◌, ◌-◌, ◌≤◌, length, map, take}
use Rattle.wait_causes.specs.WaitCauses.{before}
use Rattle.wait_causes.proofs.reply.count_before.Given as goal

abbrev pub invariant-loop : goal.invariant-loop
invariant-loop l = record {
  counted : l.count + length (before l.job (take (1000 - l.counter) l.jobs)) ≡ length (before l.job (take 1000 (map (λ e. e.id) l.index.items)));
  few : l.count ≤ l.counter;
}
