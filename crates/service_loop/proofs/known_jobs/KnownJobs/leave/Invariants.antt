-- The jobs so far are noted, and nothing else has changed.
use Rattle.std.proofs.Common.{◌≡◌, drop}
use Rattle.service_texts.specs.LeftJobs.{still_incoming}
use Rattle.service_loop.specs.KnownJobs.{all_noted}
use Rattle.service_loop.proofs.known_jobs.KnownJobs.leave.Given as goal

abbrev pub invariant-loop-job : goal.invariant-loop-job
invariant-loop-job l =
    (l.self ≡ record l.initial.self { left = l.self.left }) ×
    (all_noted l.table.state l.initial.self.now (still_incoming l.table.state l.self.left) (drop l.job-index l.jobs)
    ≡ all_noted l.table.state l.initial.self.now (still_incoming l.table.state l.initial.self.left) l.jobs)
