-- An escaped text contains no markup.
use Rattle.std.proofs.Common.{◌≡◌, ℕ, Bool, true, false, ◌==◌, [], ◌∷◌, refl, ◌∙◌}
use Rattle.std.proofs.lemmas.Bool.{or_from}
use Rattle.std.proofs.lemmas.List.Folds.{list_any-append}
use Rattle.std.specs.List.{list_any}
use Rattle.front_texts.specs.Escape.{entity, escaped, is_markup, NoMarkup}

-- The reference of a byte, which is one of the five characters or not.
entity_clean : (b : ℕ) → list_any is_markup (entity b) ≡ false
entity_clean b = by (b == 38) (b == 60) (b == 62) (b == 34) (b == 39) refl refl refl refl refl
  where
    by : (a l g q p : Bool) → (b == 38) ≡ a → (b == 60) ≡ l → (b == 62) ≡ g → (b == 34) ≡ q → (b == 39) ≡ p → list_any is_markup (entity b) ≡ false
    by true l g q p e1 e2 e3 e4 e5 = simp e1
    by false true g q p e1 e2 e3 e4 e5 = simp (e1, e2)
    by false false true q p e1 e2 e3 e4 e5 = simp (e1, e2, e3)
    by false false false true p e1 e2 e3 e4 e5 = simp (e1, e2, e3, e4)
    by false false false false true e1 e2 e3 e4 e5 = simp (e1, e2, e3, e4, e5)
    by false false false false false e1 e2 e3 e4 e5 = simp (e1, e2, e3, e4, e5)

pub no_markup : NoMarkup
no_markup [] = refl
no_markup (b ∷ bs) = list_any-append is_markup (entity b) (escaped bs) ∙ or_from _ _ (entity_clean b) (no_markup bs)
