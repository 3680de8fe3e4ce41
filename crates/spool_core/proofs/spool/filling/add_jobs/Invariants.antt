-- The rows of the first jobs and of their documents are added.
use Rattle.std.proofs.Common.{◌≡◌, ◌≤◌, ℕ, Ok, vec_capacity}
use Rattle.std.specs.Prelude.{slice_get}
use Rattle.std.specs.FinMap as finite
use Rattle.listing_rows.specs.RowFilling.{filling_at, IsFillingOn}
use Rattle.spool_core.proofs.AllLaws.{AreSomeAdded}
use Rattle.spool_core.proofs.Walks.{jobs_left}
use Rattle.spool_core.proofs.spool.filling.add_jobs.Given as goal

abbrev pub invariant-loop-next : goal.invariant-loop-next
invariant-loop-next g l = (at : ℕ) × record {
  next : l.next ≡ slice_get (finite.keys l.fn.table.state.jobs) at;
  on : IsFillingOn {T = Unit {0}} g.D.Disk.device (filling_at l.fn.areas l.fn.filler) (filling_at l.areas l.filler) (Ok tt);
  spare : vec_capacity l.fn.filler.block ≤ vec_capacity l.filler.block;
  same : l.table.state ≡ l.fn.table.state;
  places : l.table.places ≡ l.fn.table.places;
  some : AreSomeAdded g.D.Disk.device l.fn.table at (filling_at l.fn.areas l.fn.filler) l.fn.table.moves (filling_at l.areas l.filler) l.table.moves;
}

abbrev pub decreases-loop-next : goal.decreases-loop-next
decreases-loop-next g l = jobs_left l.next
