-- A loop over the rows of jobs, in order.
use Rattle.std.proofs.Common.{◌≡◌, ◌<◌, List, [], ◌∷◌, length, get_or, map, None, Some, refl}
use Rattle.std.specs.Borrow.{Bor}
use Rattle.std.specs.Iterator.{Yields, YieldsFirstRef}
use Rattle.std.proofs.lemmas.Iterator.Consumers.{YieldsList-from_first, YieldsList-turn, YieldsList-end}
use Rattle.spool_types.specs.declared.rows.JobRow.{JobRow}

module _ (start items : List JobRow) (from : start ≡ items) (xs : List (Bor JobRow)) (now next : List JobRow) (yields : Yields (YieldsFirstRef (λ (r : List JobRow). r)) start xs now) where
  -- The next row.
  pub turned : (row : Bor JobRow) → now ≡ row.now ∷ next → (length xs < length items) × (row.now ≡ get_or items (length xs) row.now)
  turned row step = YieldsList-turn (YieldsList-from_first (λ x. x.now) (λ r. r) items from) xs now yields (Some row) next row refl step

  -- All rows were visited.
  pub ended : (now ≡ []) × (next ≡ []) → (map (λ x. x.now) xs ≡ items) × (length xs ≡ length items)
  ended step = YieldsList-end (YieldsList-from_first (λ x. x.now) (λ r. r) items from) xs now yields None next refl step
