-- The entries so far, followed by those of the remaining jobs, are all entries.
use Rattle.std.proofs.Common.{◌≡◌, ◌≤◌, ◌+◌, ◌++◌, drop}
use Rattle.front_texts.specs.Lpq.{entries}
use Rattle.front_texts.proofs.lpq_form.push_entries.Given as goal

abbrev pub invariant-loop-job : goal.invariant-loop-job
invariant-loop-job l = record {
  all : l.text.items ++ entries l.long l.queue l.rank (drop l.job-index l.jobs) ≡ l.initial.text.items ++ entries l.long l.queue 1 l.jobs;
  low : l.rank ≤ 1 + l.job-index;
}
