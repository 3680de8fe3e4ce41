-- The jobs not yet searched.
use Rattle.std.proofs.Common.{◌≡◌, ◌+◌, ◌-◌, ◌≤◌, map, take}
use Rattle.service_texts.specs.QueueShown.{held_among}
use Rattle.service_texts.proofs.queue_texts.held_among.Given as goal

abbrev pub invariant-loop : goal.invariant-loop
invariant-loop l = record {
  counted : l.held + held_among l.table.state (take (1000 - l.counter) l.jobs) ≡ held_among l.table.state (take 1000 (map (λ e. e.id) l.index.items));
  few : l.held ≤ l.counter;
}
