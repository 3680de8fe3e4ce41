-- The incoming jobs so far.
use Rattle.std.proofs.Common.{◌≡◌, map}
use Rattle.spool_types.specs.State.{job_of}
use Rattle.service_texts.specs.LeftJobs.{all_left}
use Rattle.service_texts.proofs.left_jobs.LeftJobs.of_table.Given as goal

abbrev pub invariant-loop-row : goal.invariant-loop-row
invariant-loop-row l = l.jobs.items ≡ all_left l.since (map job_of (map (λ row. row.now) l.yielded))
