-- The rest of the list gives the same moment.
use Rattle.std.proofs.Common.{◌≡◌, drop}
use Rattle.service_texts.specs.LeftJobs.{oldest_from, oldest_of}
use Rattle.service_texts.proofs.left_jobs.LeftJobs.oldest.Given as goal

abbrev pub invariant-loop-left : goal.invariant-loop-left
invariant-loop-left l = oldest_from l.oldest (drop l.left-index l.self) ≡ oldest_of l.self
