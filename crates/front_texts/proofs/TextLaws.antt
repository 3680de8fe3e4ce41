-- Words that are all texts of a type, read from the front.
use Rattle.std.proofs.Common.{◌≡◌, ℕ, ◌+◌, ◌<◌, ◌≤◌, Bool, List, [], ◌∷◌, ◌++◌, length, get_or, map, drop, refl, ap, sym, ◌∙◌, append_assoc, Option, None, Some, Bor}
use Rattle.std.proofs.lemmas.List.{drop_more, drop_all, append-nil}
use Rattle.spool_types.specs.Values.{text_in}
use Rattle.front_texts.specs.QueueRows.{with_text, texts_in, now_of}

-- Further texts before the others.
abbrev pub with_texts : List (List ℕ) → Option (List (List ℕ)) → Option (List (List ℕ))
with_texts ws None = None
with_texts ws (Some vs) = Some (ws ++ vs)

with_texts-more : (ws : List (List ℕ)) (t : List ℕ) (o : Option (List (List ℕ))) → with_texts (ws ++ t ∷ []) o ≡ with_texts ws (with_text (Some t) o)
with_texts-more ws t None = refl
with_texts-more ws t (Some vs) = ap (λ l. Some l) (append_assoc ws (t ∷ []) vs)

module _ (allowed : List ℕ → Bool) (xs : List (Bor (List ℕ))) (ws : List (List ℕ)) (i : ℕ) (same : with_texts ws (texts_in allowed (map now_of (drop i xs))) ≡ texts_in allowed (map now_of xs)) where
  pub texts_end : length xs ≤ i → Some ws ≡ texts_in allowed (map now_of xs)
  texts_end le =
      ap (λ l. Some l) (sym (append-nil ws))
      ∙ ap (λ (l : List (Bor (List ℕ))). with_texts ws (texts_in allowed (map now_of l))) (sym (drop_all i xs le))
      ∙ same

  module _ (d : Bor (List ℕ)) (less : i < length xs) where
    read_here : with_texts ws (with_text (text_in allowed (get_or xs i d).now) (texts_in allowed (map now_of (drop (i + 1) xs)))) ≡ texts_in allowed (map now_of xs)
    read_here = ap (λ (l : List (Bor (List ℕ))). with_texts ws (texts_in allowed (map now_of l))) (sym (drop_more xs i d less)) ∙ same

    pub text_missing : text_in allowed (get_or xs i d).now ≡ None → None ≡ texts_in allowed (map now_of xs)
    text_missing is = ap (λ o. with_texts ws (with_text o (texts_in allowed (map now_of (drop (i + 1) xs))))) (sym is) ∙ read_here

    pub text_more : (t : List ℕ) → text_in allowed (get_or xs i d).now ≡ Some t → with_texts (ws ++ t ∷ []) (texts_in allowed (map now_of (drop (i + 1) xs))) ≡ texts_in allowed (map now_of xs)
    text_more t is =
        with_texts-more ws t (texts_in allowed (map now_of (drop (i + 1) xs)))
        ∙ ap (λ o. with_texts ws (with_text o (texts_in allowed (map now_of (drop (i + 1) xs))))) (sym is)
        ∙ read_here
