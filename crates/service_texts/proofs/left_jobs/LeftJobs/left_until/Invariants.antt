-- The rest of the list gives the same job.
use Rattle.std.proofs.Common.{◌≡◌, drop}
use Rattle.service_texts.specs.LeftJobs.{left_until, still_incoming}
use Rattle.service_texts.proofs.left_jobs.LeftJobs.left_until.Given as goal

abbrev pub invariant-loop-left : goal.invariant-loop-left
invariant-loop-left l = left_until l.until (still_incoming l.table.state (drop l.left-index l.self)) ≡ left_until l.until (still_incoming l.table.state l.self)
