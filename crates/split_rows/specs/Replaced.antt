-- One row in place of the one with its name.
use Rattle.std.specs.Prelude.{cond, nat_eq}
use Rattle.std.specs.Cmp.Lexicographic.{pointwise}
use Rattle.spool_types.specs.declared.rows.QueueRow.{QueueRow}

-- The given row, if the queue has its name, and otherwise the queue.
abbrev pub replaced : QueueRow → QueueRow → QueueRow
replaced row q = cond (pointwise nat_eq q.name row.name) row q
