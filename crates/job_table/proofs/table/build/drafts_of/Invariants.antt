-- The visited jobs are in the drafts.
use Rattle.std.proofs.Common.{length}
use Rattle.job_table.proofs.Begun.{AreBegun}
use Rattle.job_table.proofs.table.build.drafts_of.Given as goal

abbrev pub invariant-loop-row : goal.invariant-loop-row
invariant-loop-row l = AreBegun l.store.state (length l.yielded) l.drafts.items
