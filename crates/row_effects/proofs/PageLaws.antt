-- The sum of pages.
use Rattle.std.proofs.Common.{◌≡◌, ℕ, ◌+◌, ◌≤◌, min, true, List, [], ◌∷◌, refl, sym, ap, ◌∙◌, arith, zero-add}
use Rattle.std.proofs.lemmas.List.Sums.{sum_by-cons}
use Rattle.std.specs.List.{list_all, sum_by}
use Rattle.spool_types.specs.declared.effect.Effect.{Effect}
use Rattle.spool_types.specs.declared.effect.Effect.TheVariants.{Pages, TotalPages, SetReasons, AddReasons, DropReasons, Attribute, Message}
use Rattle.row_effects.specs.EffectFold.{greatest_pages, pages_after, is_pages, copies_of}

abbrev summed : List Effect → ℕ → ℕ
summed effects pages = min (pages + sum_by copies_of effects) greatest_pages

capped : (pages copies more most : ℕ) → min (min (pages + copies) most + more) most ≡ min (pages + (copies + more)) most
capped pages copies more most = omega arith

-- The copies of one effect and of the others.
one_more : (effect : Effect) (effects : List Effect) (pages : ℕ) → min (pages + (copies_of effect + sum_by copies_of effects)) greatest_pages ≡ summed (effect ∷ effects) pages
one_more effect effects pages = ap (λ n. min (pages + n) greatest_pages) (sym (sum_by-cons copies_of effect effects))

none_more : (effect : Effect) (effects : List Effect) (pages : ℕ) → copies_of effect ≡ 0 → summed effects pages ≡ summed (effect ∷ effects) pages
none_more effect effects pages none = ap (λ n. min (pages + n) greatest_pages) (sym (zero-add (sum_by copies_of effects)) ∙ ap (λ n. n + sum_by copies_of effects) (sym none)) ∙ one_more effect effects pages

pub sum : (effects : List Effect) (pages : ℕ) → list_all is_pages effects ≡ true → pages ≤ greatest_pages → pages_after effects pages ≡ summed effects pages
sum [] pages all le = omega arith
sum (Pages page copies ∷ effects) pages all le = sum effects (min (pages + copies) greatest_pages) all (omega arith) ∙ capped pages copies (sum_by copies_of effects) greatest_pages ∙ one_more (Pages page copies) effects pages
sum (TotalPages total ∷ effects) pages all le = absurd (cc)
sum (SetReasons words ∷ effects) pages all le = sum effects pages all le ∙ none_more (SetReasons words) effects pages refl
sum (AddReasons words ∷ effects) pages all le = sum effects pages all le ∙ none_more (AddReasons words) effects pages refl
sum (DropReasons words ∷ effects) pages all le = sum effects pages all le ∙ none_more (DropReasons words) effects pages refl
sum (Attribute attribute ∷ effects) pages all le = sum effects pages all le ∙ none_more (Attribute attribute) effects pages refl
sum (Message level text ∷ effects) pages all le = sum effects pages all le ∙ none_more (Message level text) effects pages refl
