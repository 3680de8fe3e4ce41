-- More rows may be written.
use Rattle.split_rows.specs.Writing.{MayWrite}
use Rattle.spool_halves.proofs.filling.put_job.Given as goal

abbrev pub invariant-loop-piece : goal.invariant-loop-piece
invariant-loop-piece g l =
    (goal.iterator-loop-piece g).can_next l.piece-iterator × (goal.iterator-loop-piece g).is_finite l.piece-iterator
    × MayWrite l.writing.areas l.writing.filler l.writing.end
