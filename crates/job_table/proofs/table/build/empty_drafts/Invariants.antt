-- The drafts so far have no jobs.
use Rattle.std.proofs.Common.{◌≡◌, length}
use Rattle.std.specs.List.{All}
use Rattle.job_table.specs.LaneDrafts.{IsBlank}
use Rattle.job_table.proofs.table.build.empty_drafts.Given as goal

abbrev pub invariant-loop : goal.invariant-loop
invariant-loop l = (length l.drafts.items ≡ l.counter) × All IsBlank l.drafts.items
