-- Rows of jobs under their numbers, as their callers see them.
use Rattle.std.specs.Prelude.{◌≡◌, ℕ, suc, ◌<◌, ◌==◌, cond, List, [], ◌∷◌, length, Option, find, nat_lt, slice_index_or, slice_set}
use Rattle.std.specs.List.{remove}
use Rattle.std.specs.Ordering.{nat_cmp}
use Rattle.spool_types.specs.declared.rows.JobRow.{JobRow}
use Rattle.job_rows.specs.RowPositions.{IsPosition, IsGap}

-- The numbers in ascending order, the row under each, and the number of rows that can be added without allocating.
pub record Listed : Type 0 where
  pub numbers : List ℕ
  pub items : List JobRow
  pub room : ℕ

-- The first position of a number, or the end if it does not occur.
abbrev pub position_in : List ℕ → ℕ → ℕ
position_in [] id = 0
position_in (n ∷ ns) id = cond (n == id) 0 (suc (position_in ns id))

abbrev pub HasNumber : List ℕ → ℕ → Type 0
HasNumber numbers id = position_in numbers id < length numbers

-- This row is under the number.
pub record HasRow (rows : Listed) (id : ℕ) (row : JobRow) : Type 0 where
  pub place : IsPosition nat_cmp (λ n. n) rows.numbers id (position_in rows.numbers id)
  pub is : slice_index_or rows.items (position_in rows.numbers id) row ≡ row

-- The number does not occur, and this is the position for it.
abbrev pub LacksNumber : List ℕ → ℕ → Type 0
LacksNumber numbers id = (at : ℕ) × IsGap nat_cmp (λ n. n) numbers id at

-- The rows with this one under the number.
abbrev pub with_row : Listed → ℕ → JobRow → Listed
with_row rows id row = record rows { items = slice_set rows.items (position_in rows.numbers id) row }

-- The rows without the one under the number.
abbrev pub without_row : Listed → ℕ → Listed
without_row rows id = record rows {
  numbers = remove rows.numbers (position_in rows.numbers id);
  items = remove rows.items (position_in rows.numbers id);
}

-- The least number above this one.
abbrev pub first_above : ℕ → List ℕ → Option ℕ
first_above number numbers = find (λ n. nat_lt number n) numbers
