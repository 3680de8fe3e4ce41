-- The first of them were touched.
use Rattle.std.proofs.Common.{◌≡◌}
use Rattle.service_texts.specs.LeftJobs.{touched_one}
use Rattle.service_texts.proofs.Parts.{part}
use Rattle.service_texts.proofs.left_jobs.LeftJobs.touch.Given as goal

abbrev pub invariant-loop-left : goal.invariant-loop-left
invariant-loop-left l = l.left-items ≡ part (touched_one l.job l.since) l.left-index l.fn.self
