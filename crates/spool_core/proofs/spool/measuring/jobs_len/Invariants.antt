-- The records of the first jobs and of their documents' pieces are in the sum.
use Rattle.std.proofs.Common.{◌≤◌, map, vec_capacity}
use Rattle.std.specs.List.{flat_map}
use Rattle.spool_types.specs.State.{job_of}
use Rattle.spool_core.specs.Checkpointing.{blank_rows}
use Rattle.spool_core.specs.Measuring.{IsSumMore}
use Rattle.spool_core.proofs.spool.measuring.jobs_len.Given as goal

abbrev pub invariant-loop-row : goal.invariant-loop-row
invariant-loop-row l = record {
  sum : IsSumMore (flat_map blank_rows (map job_of (map (λ row. row.now) l.yielded))) l.fn.before l.sum;
  spare : vec_capacity l.fn.block ≤ vec_capacity l.block;
}
