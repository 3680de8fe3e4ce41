-- The ranges of texts, one text at a time.
use Rattle.std.proofs.Common.{◌≡◌, ℕ, ◌+◌, ◌<◌, List, [], ◌∷◌, ◌++◌, length, map, get_or, drop, Option, None, Some, ap, ◌∙◌, Bor}
use Rattle.std.proofs.lemmas.List.{drop_more}
use Rattle.ipp_values.specs.declared.value.Value.{Value}
use Rattle.ipp_options.specs.StatedAttributes.{after_range, range_in, ranges_of}

module _ (texts : List (Bor (List ℕ))) (i : ℕ) (d : Bor (List ℕ)) (less : i < length texts) (read : List Value) where
  abbrev others : List (List ℕ)
  others = map (λ text. text.now) (drop (i + 1) texts)

  next : ranges_of read (map (λ text. text.now) (drop i texts)) ≡ after_range (range_in (get_or texts i d).now) (λ range. ranges_of (read ++ range ∷ []) others)
  next = ap (λ (list : List (Bor (List ℕ))). ranges_of read (map (λ text. text.now) list)) (drop_more texts i d less)

  pub range_more : (range : Value) → range_in (get_or texts i d).now ≡ Some range → ranges_of read (map (λ text. text.now) (drop i texts)) ≡ ranges_of (read ++ range ∷ []) others
  range_more range is = next ∙ ap (λ (o : Option Value). after_range o (λ range. ranges_of (read ++ range ∷ []) others)) is

  pub range_stops : range_in (get_or texts i d).now ≡ None → ranges_of read (map (λ text. text.now) (drop i texts)) ≡ []
  range_stops is = next ∙ ap (λ (o : Option Value). after_range o (λ range. ranges_of (read ++ range ∷ []) others)) is
