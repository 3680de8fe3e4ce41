-- The parts around a byte.
use Rattle.std.proofs.Common.{◌≡◌, ℕ, ◌+◌, ◌<◌, ◌≤◌, true, false, cond, ◌==◌, List, [], ◌∷◌, ◌++◌, length, get_or, take, drop, Option, None, Some, refl, ap, sym, ◌∙◌}
use Rattle.std.proofs.lemmas.List.{append_assoc, append-nil, take_more, drop_more, drop_all}
use Rattle.ipp_printers.specs.MediaNames.{with_front, parted}

pub with_front-nil : (o : Option (List ℕ × List ℕ)) → with_front [] o ≡ o
with_front-nil None = refl
with_front-nil (Some (before, after)) = refl

with_front-twice : (xs ys : List ℕ) (o : Option (List ℕ × List ℕ)) → with_front xs (with_front ys o) ≡ with_front (xs ++ ys) o
with_front-twice xs ys None = refl
with_front-twice xs ys (Some (before, after)) = ap (λ l. Some (l, after)) (sym (append_assoc xs ys before))

module _ (xs : List ℕ) (mark i : ℕ) (whole : Option (List ℕ × List ℕ)) (same : with_front (take i xs) (parted mark (drop i xs)) ≡ whole) where
  pub part_here : i < length xs → (get_or xs i 0 == mark) ≡ true → Some (take i xs, drop (i + 1) xs) ≡ whole
  part_here less found =
      ap (λ l. Some (l, drop (i + 1) xs)) (sym (append-nil (take i xs)))
      ∙ ap (with_front (take i xs)) (sym (ap (parted mark) (drop_more xs i 0 less) ∙ ap (λ v. cond v (Some ([], drop (i + 1) xs)) (with_front (get_or xs i 0 ∷ []) (parted mark (drop (i + 1) xs)))) found))
      ∙ same

  pub part_later : i < length xs → (get_or xs i 0 == mark) ≡ false → with_front (take (i + 1) xs) (parted mark (drop (i + 1) xs)) ≡ whole
  part_later less other =
      ap (λ l. with_front l (parted mark (drop (i + 1) xs))) (take_more xs i 0 less)
      ∙ sym (with_front-twice (take i xs) (get_or xs i 0 ∷ []) (parted mark (drop (i + 1) xs)))
      ∙ ap (with_front (take i xs)) (sym (ap (parted mark) (drop_more xs i 0 less) ∙ ap (λ v. cond v (Some ([], drop (i + 1) xs)) (with_front (get_or xs i 0 ∷ []) (parted mark (drop (i + 1) xs)))) other))
      ∙ same

  pub no_part : length xs ≤ i → None ≡ whole
  no_part past = ap (with_front (take i xs)) (sym (ap (parted mark) (drop_all i xs past))) ∙ same
