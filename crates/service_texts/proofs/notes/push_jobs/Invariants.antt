-- The lines of the jobs so far were appended.
use Rattle.std.proofs.Common.{◌≡◌, ◌++◌, take}
use Rattle.std.specs.List.{flat_map}
use Rattle.service_texts.specs.Notices.{job_told}
use Rattle.service_texts.proofs.notes.push_jobs.Given as goal

abbrev pub invariant-loop-job : goal.invariant-loop-job
invariant-loop-job l = l.text.items ≡ l.initial.text.items ++ flat_map (job_told l.client l.table.state) (take l.job-index l.jobs)
