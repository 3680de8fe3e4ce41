-- The visited lanes have room for one more job, and the others are unchanged.
use Rattle.std.proofs.Common.{◌≡◌, ℕ, ◌+◌, ◌<◌, ◌≤◌, length, slice_index_or}
use Rattle.job_table.specs.Lanes.{IsSameLane}
use Rattle.job_table.specs.declared.lane.Lane.{Lane}
use Rattle.job_table.proofs.lane.reserve_each.Given as goal

abbrev pub invariant-loop-at : goal.invariant-loop-at
invariant-loop-at l = record {
  count : length l.lanes ≡ length l.fn.lanes;
  each : (i : ℕ) (d : Lane) → i < length l.lanes → IsSameLane (slice_index_or l.fn.lanes i d) (slice_index_or l.lanes i d);
  room : (i : ℕ) (d : Lane) → i < l.at → (slice_index_or l.lanes i d).live + 1 ≤ (slice_index_or l.lanes i d).reserved;
}
