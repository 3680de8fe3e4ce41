-- The visited lanes are at the moment, and the others are unchanged.
use Rattle.std.proofs.Common.{◌≡◌, ℕ, ◌<◌, ◌≤◌, length, slice_index_or}
use Rattle.job_table.specs.Lanes.{IsAdvanced}
use Rattle.job_table.specs.declared.lane.Lane.{Lane}
use Rattle.job_table.proofs.lane.advance_each.Given as goal

abbrev pub invariant-loop-at : goal.invariant-loop-at
invariant-loop-at l = record {
  count : length l.lanes ≡ length l.fn.lanes;
  done : (i : ℕ) (d : Lane) → i < l.at → IsAdvanced l.moment (slice_index_or l.fn.lanes i d) (slice_index_or l.lanes i d);
  rest : (i : ℕ) (d : Lane) → l.at ≤ i → slice_index_or l.lanes i d ≡ slice_index_or l.fn.lanes i d;
}
