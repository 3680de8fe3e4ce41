-- Splitting bytes at the first of a kind.
use Rattle.std.proofs.Common.{◌≡◌, ℕ, ◌+◌, ◌<◌, ◌≤◌, cond, List, [], ◌∷◌, ◌++◌, length, get_or, take, drop, eqb, ap, sym, ◌∙◌, Option, None, Some}
use Rattle.std.proofs.lemmas.Bool.{eq-eqb, ne_eqb}
use Rattle.std.proofs.lemmas.List.{take_more, drop_more, drop_all}
use Rattle.line_words.specs.Quotes.{with_bytes}
use Rattle.line_words.proofs.QuoteLaws.{with_bytes-append, with_bytes-some}
use Rattle.stderr_lines.specs.Cuts.{cut_at}

-- The bytes before i are skipped.
module _ (c : ℕ) (xs : List ℕ) (i : ℕ) (less : i < length xs) (whole : Option (List ℕ × List ℕ)) (same : with_bytes (take i xs) (cut_at c (drop i xs)) ≡ whole) where
  here : with_bytes (take i xs) (cond (eqb (get_or xs i 0) c) (Some ([], drop (i + 1) xs)) (with_bytes (get_or xs i 0 ∷ []) (cut_at c (drop (i + 1) xs)))) ≡ whole
  here = ap (λ l. with_bytes (take i xs) (cut_at c l)) (sym (drop_more xs i 0 less)) ∙ same

  pub cut_here : get_or xs i 0 ≡ c → Some (take i xs, drop (i + 1) xs) ≡ whole
  cut_here is =
      sym (with_bytes-some (take i xs) (drop (i + 1) xs))
      ∙ ap (λ v. with_bytes (take i xs) (cond v (Some ([], drop (i + 1) xs)) (with_bytes (get_or xs i 0 ∷ []) (cut_at c (drop (i + 1) xs))))) (sym (eq-eqb (get_or xs i 0) c is))
      ∙ here

  pub cut_more : (get_or xs i 0 ≡ c → ⊥) → with_bytes (take (i + 1) xs) (cut_at c (drop (i + 1) xs)) ≡ whole
  cut_more not =
      ap (λ l. with_bytes l (cut_at c (drop (i + 1) xs))) (take_more xs i 0 less)
      ∙ with_bytes-append (take i xs) (get_or xs i 0 ∷ []) (cut_at c (drop (i + 1) xs))
      ∙ ap (λ v. with_bytes (take i xs) (cond v (Some ([], drop (i + 1) xs)) (with_bytes (get_or xs i 0 ∷ []) (cut_at c (drop (i + 1) xs))))) (sym (ne_eqb (get_or xs i 0) c not))
      ∙ here

-- No byte is left.
pub cut_end : (c : ℕ) (xs : List ℕ) (i : ℕ) (whole : Option (List ℕ × List ℕ)) → length xs ≤ i → with_bytes (take i xs) (cut_at c (drop i xs)) ≡ whole → None ≡ whole
cut_end c xs i whole le same = ap (λ l. with_bytes (take i xs) (cut_at c l)) (sym (drop_all i xs le)) ∙ same
