-- More rows may be written.
use Rattle.split_rows.specs.Writing.{MayWrite}
use Rattle.spool_halves.proofs.filling.put_queues.Given as goal

abbrev pub invariant-loop-queue : goal.invariant-loop-queue
invariant-loop-queue g l = MayWrite l.writing.areas l.writing.filler l.writing.end
