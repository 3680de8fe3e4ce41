-- The lines of the jobs so far.
use Rattle.std.proofs.Common.{◌≡◌, take}
use Rattle.std.specs.List.{flat_map}
use Rattle.front_texts.specs.Lpstat.{job_entry}
use Rattle.front_texts.proofs.lpstat.lpstat_jobs.Given as goal

abbrev pub invariant-loop-job : goal.invariant-loop-job
invariant-loop-job l = l.text.items ≡ flat_map (job_entry l.long) (take l.job-index l.jobs)
