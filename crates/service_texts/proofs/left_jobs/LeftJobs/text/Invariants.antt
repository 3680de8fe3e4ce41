-- The lines so far and their number.
use Rattle.std.proofs.Common.{◌≡◌, ◌≤◌, take}
use Rattle.service_texts.specs.LeftJobs.{still_count, still_lines}
use Rattle.service_texts.proofs.left_jobs.LeftJobs.text.Given as goal

abbrev pub invariant-loop-left : goal.invariant-loop-left
invariant-loop-left l = record {
  lines : l.text.items ≡ still_lines l.now l.table.state (take l.left-index l.self);
  counted : l.count ≡ still_count l.table.state (take l.left-index l.self);
  few : l.count ≤ l.left-index;
}
