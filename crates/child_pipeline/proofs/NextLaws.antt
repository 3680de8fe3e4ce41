-- Iterating over the slots in order.
use Rattle.std.proofs.Common.{◌≡◌, ℕ, ◌<◌, ◌≤◌, true, false, List, [], ◌∷◌, Option, Some, None, refl, sym, ap, ◌∙◌, arith}
use Rattle.std.specs.Option.{is_some}
use Rattle.std.specs.Ordering.{nat_cmp, is_gt}
use Rattle.std.specs.declared.cmp.Ordering.TheVariants.{Less}
use Rattle.std.specs.declared.ops.Bound.TheVariants.{Unbounded}
use Rattle.std.specs.BTreeMap.{BTreeMap, get}
use Rattle.std.specs.BTreeMap.Range.{IsRangeOf, IsInRange}
use Rattle.std.specs.FinMap as finite
use Rattle.std.proofs.lemmas.Bool.Decides.{nat_tests}
use Rattle.child_pipeline.specs.StageSlots.{Slots, IsBehind, IsNextJob, bound_behind}

below_less : (k j : ℕ) → k < j → nat_cmp k j ≡ Less
below_less k j lt = grind (arith, nat_tests)

less_below : (k j : ℕ) → nat_cmp k j ≡ Less → k < j
less_below k j is = grind (arith, nat_tests)

not_above : (k j : ℕ) → is_gt (nat_cmp k j) ≡ false → k ≤ j
not_above k j is = grind (arith, nat_tests)

to_range : (behind : Option ℕ) (j : ℕ) → IsBehind behind j → IsInRange nat_cmp (bound_behind behind) Unbounded j
to_range None j later = (tt, tt)
to_range (Some k) j later = (below_less k j later, tt)

from_range : (behind : Option ℕ) (j : ℕ) → IsInRange nat_cmp (bound_behind behind) Unbounded j → IsBehind behind j
from_range None j later = tt
from_range (Some k) j later = less_below k j later.0

none_of : {X : Type 0} (o : Option X) → is_some o ≡ false → o ≡ None
none_of None is = refl
none_of (Some x) is = absurd (cc)

module _ {X : Type 0} (entries : BTreeMap ℕ X) (m : Slots) (behind : Option ℕ) (same : (q : ℕ) → is_some (finite.get m q) ≡ is_some (get nat_cmp entries q)) where
  pub none_behind : IsRangeOf nat_cmp (bound_behind behind) Unbounded entries [] → IsNextJob m behind None
  none_behind range j later = none_of (finite.get m j) (same j ∙ ap is_some (range.5 refl j (to_range behind j later)))

  pub first_behind : (e : ℕ × X) (rest : List (ℕ × X)) → IsRangeOf nat_cmp (bound_behind behind) Unbounded entries (e ∷ rest) → IsNextJob m behind (Some e.0)
  first_behind e rest range = (
    from_range behind e.0 range.1.0,
    same e.0 ∙ ap is_some range.1.1,
    λ j later there. not_above e.0 j (range.2 j (to_range behind j later) (sym (same j) ∙ there)),
  )
