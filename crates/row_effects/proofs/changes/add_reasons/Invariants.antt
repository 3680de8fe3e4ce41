-- The reasons are those after the visited words.
use Rattle.std.proofs.Common.{◌≡◌, ◌≤◌, true, vec_capacity}
use Rattle.row_effects.specs.Keys.{is_ascending}
use Rattle.row_effects.specs.QueueReasons.{word_of, add_reasons}
use Rattle.row_effects.proofs.changes.add_reasons.Given as goal

abbrev pub invariant-loop-word : goal.invariant-loop-word
invariant-loop-word l = record {
  items : l.reasons.items ≡ add_reasons l.yielded l.fn.reasons.items;
  ascending : is_ascending word_of l.reasons.items ≡ true;
  room : vec_capacity l.fn.reasons ≤ vec_capacity l.reasons;
}
