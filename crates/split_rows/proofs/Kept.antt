-- One more of the elements that pass a test.
use Rattle.std.proofs.Common.{◌≡◌, ◌∙◌, ℕ, ◌+◌, ◌<◌, zero, suc, arith, Bool, true, false, cond, List, [], ◌∷◌, ◌++◌, length, get_or, take, refl, sym, ap, append_assoc, append-nil}
use Rattle.std.specs.List.{AllByRecursion, filter}
use Rattle.std.proofs.lemmas.List.{take_more}
use Rattle.std.proofs.lemmas.List.Elements.{filter_more}

module _ {X : Type 0} (p : X → Bool) (whole part rest : List X) (i : ℕ) (x : X) (lt : i < length whole) (is : x ≡ get_or whole i x) (before : part ≡ filter p (take i whole) ++ rest) where
  one : (b : Bool) → p x ≡ b → filter p (take (i + 1) whole) ≡ filter p (take i whole) ++ cond b (x ∷ []) []
  one b passes =
      filter_more p whole i x lt
      ∙ ap (λ (y : X). filter p (take i whole) ++ cond (p y) (y ∷ []) []) (sym is)
      ∙ ap (λ (c : Bool). filter p (take i whole) ++ cond c (x ∷ []) []) passes

  -- An element that is kept.
  pub kept_more : (others : List X) → p x ≡ true → rest ≡ x ∷ others → part ≡ filter p (take (i + 1) whole) ++ others
  kept_more others passes first =
      before ∙ ap (λ (l : List X). filter p (take i whole) ++ l) first
      ∙ sym (append_assoc (filter p (take i whole)) (x ∷ []) others)
      ∙ ap (λ (l : List X). l ++ others) (sym (one true passes))

  -- An element that is left out.
  pub left_out : p x ≡ false → part ≡ filter p (take (i + 1) whole) ++ rest
  left_out fails =
      before ∙ ap (λ (l : List X). l ++ rest) (sym (one false fails ∙ append-nil (filter p (take i whole))))

module _ {X : Type 0} (p : X → Bool) (whole part : List X) (i at : ℕ) (x : X) (lt : i < length whole) (is : x ≡ get_or whole i x) (before : take at part ≡ filter p (take i whole)) where
  -- The same, with the first elements of the part counted.
  pub kept_next : at < length part → get_or part at x ≡ x → p x ≡ true → take (at + 1) part ≡ filter p (take (i + 1) whole)
  kept_next in_part same passes =
      take_more part at x in_part
      ∙ ap (λ (y : X). take at part ++ y ∷ []) same
      ∙ ap (λ (l : List X). l ++ x ∷ []) before
      ∙ sym (one p whole (filter p (take i whole) ++ []) [] i x lt is refl true passes)

  pub left_out_next : p x ≡ false → take at part ≡ filter p (take (i + 1) whole)
  left_out_next fails = before ∙ sym (one p whole (filter p (take i whole) ++ []) [] i x lt is refl false fails ∙ append-nil (filter p (take i whole)))

-- A property of all elements holds for each.
pub all_at : {X : Type 0} (P : X → Type 0) (xs : List X) (i : ℕ) (d : X) → i < length xs → AllByRecursion P xs → P (get_or xs i d)
all_at P [] i d lt all = absurd (omega (arith, lt))
all_at P (x ∷ xs) zero d lt all = all.0
all_at P (x ∷ xs) (suc i) d lt all = all_at P xs i d (omega (arith, lt)) all.1
