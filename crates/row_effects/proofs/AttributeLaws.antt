-- The value of a name after an attribute is set.
use Rattle.std.proofs.Common.{◌≡◌, ◌≢◌, ℕ, ◌<◌, Bool, true, false, cond, ◌||◌, List, [], ◌∷◌, length, Some, refl, sym, ap, ◌∙◌}
use Rattle.std.specs.Prelude.{nat_lt}
use Rattle.std.specs.declared.cmp.Ordering.TheVariants.{Less, Equal, Greater}
use Rattle.std.specs.List.{find}
use Rattle.std.specs.Option.{option_map}
use Rattle.std.specs.FinMap.Entries.{by_order}
use Rattle.std.proofs.lemmas.Bool.{false_from_ne_true}
use Rattle.std.proofs.lemmas.Slice.Eq.{bytes_eq-Decides}
use Rattle.spool_types.specs.declared.effect.Attribute.{Attribute}
use Rattle.row_effects.specs.Keys.{most_kept, has_key, with_item}
use Rattle.row_effects.specs.QueueAttributes.{name_of, set_attribute, value_at}
use Rattle.row_effects.proofs.Keys.{compare, same, one_key, apart}
use Rattle.row_effects.proofs.Kept.{kept_there, kept_below}

-- Whether the first attribute has the name.
own : (a : Attribute) (kept : List Attribute) → value_at a.name (a ∷ kept) ≡ Some a.value
own a kept = ap (λ b. option_map (λ (x : Attribute). x.value) (cond b (Some a) (find (λ (x : Attribute). same x.name a.name) kept))) ((bytes_eq-Decides a.name a.name).1 refl)

past : (z : Attribute) (name : List ℕ) (kept : List Attribute) → same z.name name ≡ false → value_at name (z ∷ kept) ≡ value_at name kept
past z name kept other = ap (λ b. option_map (λ (x : Attribute). x.value) (cond b (Some z) (find (λ (x : Attribute). same x.name name) kept))) other

value_with : (a : Attribute) (kept : List Attribute) → value_at a.name (with_item name_of a kept) ≡ Some a.value
value_with a [] = own a []
value_with a (z ∷ zs) =
    let rest = value_with a zs in
    elim (compare a.name z.name) as (λ r. compare a.name z.name ≡ r → value_at a.name (by_order r (a ∷ z ∷ zs) (a ∷ zs) (z ∷ with_item name_of a zs)) ≡ Some a.value) [
      | Less ↦ λ p. own a (z ∷ zs)
      | Equal ↦ λ p. own a zs
      | Greater ↦ λ p. past z a.name (with_item name_of a zs) (apart a.name z.name Greater p) ∙ rest
    ] refl

pub replaced : (kept : List Attribute) (a : Attribute) → has_key name_of a.name kept ≡ true → value_at a.name (set_attribute kept a) ≡ Some a.value
replaced kept a there = ap (value_at a.name) (kept_there name_of a kept there) ∙ value_with a kept

pub added : (kept : List Attribute) (a : Attribute) → length kept < most_kept → value_at a.name (set_attribute kept a) ≡ Some a.value
added kept a lt = ap (value_at a.name) (kept_below name_of a kept lt) ∙ value_with a kept

-- Only the name of one attribute was compared.
asked : (z : Attribute) (name : List ℕ) (kept left : List Attribute) → value_at name kept ≡ value_at name left → value_at name (z ∷ kept) ≡ value_at name (z ∷ left)
asked z name kept left e = by (same z.name name) e
  where
    by : (b : Bool) → value_at name kept ≡ value_at name left → option_map (λ (x : Attribute). x.value) (cond b (Some z) (find (λ (x : Attribute). same x.name name) kept)) ≡ option_map (λ (x : Attribute). x.value) (cond b (Some z) (find (λ (x : Attribute). same x.name name) left))
    by true e = refl
    by false e = e

other_with : (a : Attribute) (kept : List Attribute) (name : List ℕ) → same a.name name ≡ false → value_at name (with_item name_of a kept) ≡ value_at name kept
other_with a [] name other = past a name [] other
other_with a (z ∷ zs) name other =
    let rest = other_with a zs name other in
    elim (compare a.name z.name) as (λ r. compare a.name z.name ≡ r → value_at name (by_order r (a ∷ z ∷ zs) (a ∷ zs) (z ∷ with_item name_of a zs)) ≡ value_at name (z ∷ zs)) [
      | Less ↦ λ p. past a name (z ∷ zs) other
      | Equal ↦ λ p. past a name zs other ∙ sym (past z name zs (ap (λ k. same k name) (sym (one_key a.name z.name p)) ∙ other))
      | Greater ↦ λ p. asked z name (with_item name_of a zs) zs rest
    ] refl

pub others : (kept : List Attribute) (a : Attribute) (name : List ℕ) → name ≢ a.name → value_at name (set_attribute kept a) ≡ value_at name kept
others kept a name apart =
    let other : same a.name name ≡ false = false_from_ne_true _ (λ e. apart (sym ((bytes_eq-Decides a.name name).0 e))) in
    elim (has_key name_of a.name kept || nat_lt (length kept) most_kept) as (λ b. value_at name (cond b (with_item name_of a kept) kept) ≡ value_at name kept) [
      | true ↦ other_with a kept name other
      | false ↦ refl
    ]
