-- The queue of the job exists.
use Rattle.std.proofs.Common.{refl, sym}
use Rattle.spool_types.specs.State.{job_of}
use Rattle.job_table.proofs.Tables.{needed_and_not}
use Rattle.job_table.proofs.table.commit.seat.Goals as goal

pub unreachable-requires-in_default-queue_position : goal.unreachable-requires-in_default-queue_position
unreachable-requires-in_default-queue_position c =
    needed_and_not _ _ (c.queue_position.ensures.legal.jobs c.args.job (job_of c.in-Some.row.now) (sym c.in-Some.ensures.row)).queue c.in_default-queue_position.ensures.absent.absent refl
