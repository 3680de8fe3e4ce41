-- The rows after a `&mut` to one of them was returned.
use Rattle.std.specs.Prelude.{ℕ}
use Rattle.std.specs.Borrow.{Lends, MutBor, Fml}
use Rattle.spool_types.specs.declared.rows.JobRow.{JobRow}
use Rattle.spool_types.specs.contracts.rows.JobRow.{the_row as row_type}
use Rattle.job_rows.specs.NumberedRows.{Listed, with_row}
use Rattle.job_rows.specs.contracts.rows.Rows.{the_row}

-- The number has the row that was last written through the reference.
abbrev pub LendsRow : MutBor Listed → ℕ → MutBor JobRow → Fml
LendsRow rows id row = Lends the_row row_type rows row (with_row rows.now id)
