-- The jobs so far, followed by those of the remaining rows, are all jobs.
use Rattle.std.proofs.Common.{◌≡◌, ◌++◌, drop}
use Rattle.front_texts.specs.AgedJobs.{aged_after, aged_jobs}
use Rattle.front_texts.proofs.aged_jobs.read_aged_jobs.Given as goal

abbrev pub invariant-loop-row : goal.invariant-loop-row
invariant-loop-row l = l.jobs.items ++ aged_after l.now l.fields.items (drop l.row-index l.rows) ≡ aged_jobs l.now l.rows
