-- A walk over the jobs of a table, in the order of their numbers.
use Rattle.std.proofs.Common.{◌≡◌, ℕ, zero, suc, ◌+◌, ◌-◌, ◌<◌, ◌≤◌, List, [], ◌∷◌, length, get_or, map, Option, None, Some, refl, sym, ap, ◌∙◌, arith}
use Rattle.std.specs.Prelude.{slice_get}
use Rattle.extents.specs.Extents.{size_of}
use Rattle.spool_types.specs.Limits.{greatest_number}
use Rattle.spool_types.specs.State.{job_at}
use Rattle.spool_types.specs.declared.rows.JobRow.{JobRow}
use Rattle.job_table.specs.Contents.{Contents, AreSized, places_of}

-- At most this many numbers are left from this one on.
abbrev pub jobs_left : Option ℕ → ℕ
jobs_left None = 0
jobs_left (Some n) = greatest_number + 2 - n

-- The row of a number that was reached.
pub record IsRowAt (rows : List JobRow) (at n : ℕ) : Type 0 where
  pub row : JobRow
  pub within : at < length rows
  pub is : get_or rows at row ≡ row
  pub own : row.job.id ≡ n

pub row_at : (rows : List JobRow) (at n : ℕ) → slice_get (map (λ (r : JobRow). r.job.id) rows) at ≡ Some n → IsRowAt rows at n
row_at [] at n is = absurd (cc)
row_at (r ∷ rows) zero n is = record { row = r; within = omega arith; is = refl; own = cc }
row_at (r ∷ rows) (suc at) n is = let rest = row_at rows at n is in record { row = rest.row; within = omega (arith, rest.within); is = rest.is; own = rest.own }

-- If no number was reached, none is left.
pub past_end : (ns : List ℕ) (at : ℕ) → slice_get ns at ≡ None → length ns ≤ at
past_end [] at none = omega arith
past_end (n ∷ ns) zero none = absurd (cc)
past_end (n ∷ ns) (suc at) none = let rest = past_end ns at none in omega (arith, rest)

pub not_some : (o : Option ℕ) → ((k : ℕ) → o ≡ Some k → ⊥) → o ≡ None
not_some None never = refl
not_some (Some k) never = absurd (never k refl)

-- Documents at the same places have the same lengths.
pub sized_alike : (c d : Contents) → d.state ≡ c.state → d.places ≡ c.places → AreSized c → AreSized d
sized_alike c d same places sized = λ j r there.
    ap (λ ps. size_of (places_of ps j)) places ∙ sized j r (ap (λ s. job_at s j) (sym same) ∙ there)
