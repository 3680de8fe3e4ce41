-- The jobs so far that match.
use Rattle.std.proofs.Common.{◌≡◌, take}
use Rattle.std.specs.Prelude.{filter}
use Rattle.ipp_answers.specs.JobQueries.{is_asked}
use Rattle.ipp_answers.proofs.queries.matching.Given as goal

abbrev pub invariant-loop-job : goal.invariant-loop-job
invariant-loop-job l = l.found.items ≡ filter (λ job. is_asked l.query job.now) (take l.job-index l.jobs)
