-- Lists of words that are read in order.
use Rattle.std.proofs.Common.{◌≡◌, ℕ, ◌+◌, ◌<◌, List, [], ◌∷◌, ◌++◌, length, map, get_or, take, drop, Option, None, Some, refl, ap, sym, ◌∙◌, Bor}
use Rattle.std.proofs.lemmas.List.{take_more, take-append-drop, drop_more, map-append}
use Rattle.ipp_printers.specs.PropertyValues.{onto, every}

module _ {A : Type 0} (read : List ℕ → Option A) where
  pub every_push : (words : List (List ℕ)) (word : List ℕ) (xs : List A) (x : A) → every read words ≡ Some xs → read word ≡ Some x
      → every read (words ++ word ∷ []) ≡ Some (xs ++ x ∷ [])
  every_push [] word xs x all one =
      let none : xs ≡ [] = cc in
      ap (λ o. onto o (Some [])) one ∙ ap (λ l. Some (l ++ x ∷ [])) (nil_from xs none)
    where
      nil_from : (l : List A) → l ≡ [] → [] ≡ l
      nil_from l e = cc
  every_push (w ∷ words) word xs x all one = by (read w) (every read words) refl refl all (λ ys b. every_push words word ys x b one)
    where
      by : (o : Option A) (rest : Option (List A)) → read w ≡ o → every read words ≡ rest → onto o rest ≡ Some xs
          → ((ys : List A) → every read words ≡ Some ys → every read (words ++ word ∷ []) ≡ Some (ys ++ x ∷ []))
          → onto (read w) (every read (words ++ word ∷ [])) ≡ Some (xs ++ x ∷ [])
      by None None a b h more = absurd (cc)
      by None (Some ys) a b h more = absurd (cc)
      by (Some y) None a b h more = absurd (cc)
      by (Some y) (Some ys) a b h more =
          let whole : y ∷ ys ≡ xs = cc in
          ap (λ o. onto o (every read (words ++ word ∷ []))) a ∙ ap (onto (Some y)) (more ys b) ∙ ap (λ l. Some (l ++ x ∷ [])) whole

  pub every_stops : (words : List (List ℕ)) (word : List ℕ) (more : List (List ℕ)) → read word ≡ None → every read (words ++ word ∷ more) ≡ None
  every_stops [] word more none = ap (λ o. onto o (every read more)) none
  every_stops (w ∷ words) word more none = ap (onto (read w)) (every_stops words word more none) ∙ by (read w)
    where
      by : (o : Option A) → onto o None ≡ None
      by None = refl
      by (Some y) = refl

-- ## The words so far

module _ {A : Type 0} (read : List ℕ → Option A) (words : List (Bor (List ℕ))) (i : ℕ) (d : Bor (List ℕ)) (less : i < length words) where
  pub words_more : (xs : List A) (x : A) → every read (map (λ word. word.now) (take i words)) ≡ Some xs → read (get_or words i d).now ≡ Some x
      → every read (map (λ word. word.now) (take (i + 1) words)) ≡ Some (xs ++ x ∷ [])
  words_more xs x all one =
      ap (every read) (ap (map (λ word. word.now)) (take_more words i d less) ∙ map-append (λ word. word.now) (take i words) (get_or words i d ∷ []))
      ∙ every_push read (map (λ word. word.now) (take i words)) (get_or words i d).now xs x all one

  pub words_stop : read (get_or words i d).now ≡ None → None ≡ every read (map (λ word. word.now) words)
  words_stop none =
      sym
      (ap (every read)
      (ap (map (λ word. word.now)) (sym (take-append-drop i words) ∙ ap (λ l. take i words ++ l) (drop_more words i d less))
      ∙ map-append (λ word. word.now) (take i words) (get_or words i d ∷ drop (i + 1) words))
      ∙ every_stops read (map (λ word. word.now) (take i words)) (get_or words i d).now (map (λ word. word.now) (drop (i + 1) words)) none)
