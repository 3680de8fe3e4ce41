-- The dates at the visited positions are listed.
use Rattle.std.proofs.Common.{◌≡◌, ℕ, ◌<◌, ◌≤◌, ◌⊎◌}
use Rattle.std.specs.Prelude.{◌↔◌}
use Rattle.std.specs.List.{Contains}
use Rattle.job_table.specs.DueTimes.{IsNumberWithin}
use Rattle.job_table.proofs.table.due.list.Given as goal

abbrev pub invariant-loop-at : goal.invariant-loop-at
invariant-loop-at l = record {
  items : (j : ℕ) → Contains l.jobs.items j ↔ (Contains l.fn.jobs.items j ⊎ IsNumberWithin l.dates.items l.first l.at j);
  low : l.first ≤ l.at;
  high : l.first ≤ l.last → l.at ≤ l.last;
  none : l.last < l.first → l.at ≡ l.first;
}
