-- The documents of the visited rows have moved, and the places of the others are still noted.
use Rattle.std.proofs.Common.{◌≡◌, ℕ, ◌<◌, ◌≤◌, length, slice_index_or}
use Rattle.std.specs.Prelude.{slice_get}
use Rattle.std.specs.Ordering.{nat_cmp}
use Rattle.std.specs.FinMap as finite
use Rattle.spool_types.specs.declared.rows.JobRow.{JobRow}
use Rattle.job_table.specs.Contents.{move_room}
use Rattle.job_table.specs.TableRows.{IsMoved}
use Rattle.job_table.proofs.Numbered.{numbers_left}
use Rattle.job_table.proofs.store.moves.move_rows.Given as goal

abbrev pub invariant-loop-next : goal.invariant-loop-next
invariant-loop-next l = (at : ℕ) × record {
  next : l.next ≡ slice_get l.fn.rows.numbers at;
  same : l.rows ≡ record l.fn.rows { items = l.rows.items };
  count : length l.rows.items ≡ length l.fn.rows.items;
  done : (i : ℕ) (d : JobRow) → i < at → IsMoved l.fn.noted (slice_index_or l.fn.rows.items i d) (slice_index_or l.rows.items i d);
  rest : (i : ℕ) (d : JobRow) → at ≤ i → slice_index_or l.rows.items i d ≡ slice_index_or l.fn.rows.items i d;
  left : (i : ℕ) (d : JobRow) → at ≤ i → i < length l.fn.rows.items → finite.find nat_cmp (slice_index_or l.fn.rows.items i d).job.id l.noted.places ≡ finite.find nat_cmp (slice_index_or l.fn.rows.items i d).job.id l.fn.noted.places;
  room : (i : ℕ) (d : JobRow) → at ≤ i → i < length l.fn.rows.items → move_room l.noted (slice_index_or l.fn.rows.items i d).job.id ≡ move_room l.fn.noted (slice_index_or l.fn.rows.items i d).job.id;
}

abbrev pub decreases-loop-next : goal.decreases-loop-next
decreases-loop-next l = numbers_left l.next
