-- The queues so far.
use Rattle.std.proofs.Common.{◌≡◌, ◌⊎◌, ◌≤◌, ◌<◌, ◌+◌, ℕ, true, false, length, get_or}
use Rattle.print_rounds.specs.StartLimits.{can_start, opened_in}
use Rattle.print_rounds.proofs.start_room.open_some.Given as goal

abbrev pub invariant-loop-at : goal.invariant-loop-at
invariant-loop-at l = record {
  count : length l.closed.items ≡ length l.initial.closed.items;
  before : (i : ℕ) → i < l.from → get_or l.closed.items i true ≡ get_or l.initial.closed.items i true;
  behind : (i : ℕ) → l.at ≤ i → get_or l.closed.items i true ≡ get_or l.initial.closed.items i true;
  opened : (i : ℕ) → get_or l.initial.closed.items i true ≡ false → get_or l.closed.items i true ≡ false;
  start : (i : ℕ) → get_or l.closed.items i true ≡ false → (get_or l.initial.closed.items i true ≡ false) ⊎ (can_start l.table.state l.blocked i ≡ true);
  taken : opened_in l.closed.items + l.left ≡ opened_in l.initial.closed.items + l.start_room;
  less : l.left ≤ l.start_room;
  none : l.start_room ≡ 0 → l.closed.items ≡ l.initial.closed.items;
  in_order : (i j : ℕ) → l.from ≤ j → j < i → i < l.at → can_start l.table.state l.blocked j ≡ true → get_or l.closed.items j true ≡ true → get_or l.closed.items i true ≡ true;
  all : 0 < l.left → (i : ℕ) → l.from ≤ i → i < l.at → can_start l.table.state l.blocked i ≡ true → get_or l.closed.items i true ≡ false;
}
