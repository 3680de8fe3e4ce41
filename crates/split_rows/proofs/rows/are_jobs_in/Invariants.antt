-- The first rows of the part are those of the jobs so far that belong to the half.
use Rattle.std.proofs.Common.{◌≡◌, ◌≤◌, length, take}
use Rattle.std.specs.List.{filter}
use Rattle.spool_types.specs.State.{Job}
use Rattle.split_rows.specs.Half.{takes}
use Rattle.split_rows.specs.Tellable.{jobs_in}
use Rattle.split_rows.proofs.rows.are_jobs_in.Given as goal

abbrev pub invariant-loop-row : goal.invariant-loop-row
invariant-loop-row l = record {
  within : l.at ≤ length l.part;
  same : take l.at (jobs_in l.part) ≡ filter (λ (r : Job). takes l.half.named l.half.names.now r.queue) (take l.row-index (jobs_in l.whole));
}
