-- The rows of the job and of the first pieces of its document are added.
use Rattle.std.proofs.Common.{◌≡◌, ◌≤◌, ◌-◌, Some, Ok, vec_capacity}
use Rattle.spool_types.specs.State.{Job, job_at}
use Rattle.job_table.specs.Contents.{places_at}
use Rattle.job_table.specs.DocumentLengths.{document_len}
use Rattle.listing_rows.specs.RowFilling.{filling_at, IsFillingOn}
use Rattle.spool_core.proofs.PartLaws.{IsPartAdded}
use Rattle.spool_core.proofs.spool.filling.add_job.Given as goal

abbrev pub invariant-loop-done : goal.invariant-loop-done
invariant-loop-done g l = record {
  within : l.done ≤ l.len;
  on : IsFillingOn {T = Unit {0}} g.D.Disk.device (filling_at l.fn.areas l.fn.filler) (filling_at l.areas l.filler) (Ok tt);
  spare : vec_capacity l.fn.filler.block ≤ vec_capacity l.filler.block;
  same : l.table.state ≡ l.fn.table.state;
  places : l.table.places ≡ l.fn.table.places;
  len : (r : Job) → job_at l.fn.table.state l.job ≡ Some r → l.len ≡ document_len r;
  part : (r : Job) → job_at l.fn.table.state l.job ≡ Some r → IsPartAdded g.D.Disk.device (places_at l.fn.table l.job) r l.done (filling_at l.fn.areas l.fn.filler) l.fn.table.moves (filling_at l.areas l.filler) l.table.moves;
}

abbrev pub decreases-loop-done : goal.decreases-loop-done
decreases-loop-done g l = l.len - l.done
