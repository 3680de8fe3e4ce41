-- Pieces of bytes. The first piece is read byte by byte.
use Rattle.std.proofs.Common.{◌≡◌, ℕ, ◌+◌, ◌<◌, ◌≤◌, Bool, true, false, cond, List, [], ◌∷◌, ◌++◌, length, get_or, take, drop, refl, ap, sym, ◌∙◌}
use Rattle.std.proofs.lemmas.List.{append_assoc, append-nil, take_all, take_more, drop_more, drop_all}
use Rattle.std.specs.List.{slice_split, onto_first}

-- Bytes in front of the first piece.
abbrev pub onto_front : List ℕ → List (List ℕ) → List (List ℕ)
onto_front front [] = front ∷ []
onto_front front (piece ∷ pieces) = (front ++ piece) ∷ pieces

pub onto_front-push : (front : List ℕ) (b : ℕ) (pieces : List (List ℕ)) → onto_front (front ++ b ∷ []) pieces ≡ onto_front front (onto_first b pieces)
onto_front-push front b [] = refl
onto_front-push front b (piece ∷ pieces) = ap (λ l. l ∷ pieces) (append_assoc front (b ∷ []) piece)

pub onto_front-end : (front : List ℕ) (pieces : List (List ℕ)) → onto_front front ([] ∷ pieces) ≡ front ∷ pieces
onto_front-end front pieces = ap (λ l. l ∷ pieces) (append-nil front)

-- Another byte is added to a first piece.
onto_front_first : (b : ℕ) (pieces : List (List ℕ)) → onto_front [] (onto_first b pieces) ≡ onto_first b pieces
onto_front_first b [] = refl
onto_front_first b (piece ∷ pieces) = refl

pub onto_front_none : (test : Bool) (b : ℕ) (others pieces : List (List ℕ)) → onto_front [] (cond test ([] ∷ others) (onto_first b pieces)) ≡ cond test ([] ∷ others) (onto_first b pieces)
onto_front_none true b others pieces = refl
onto_front_none false b others pieces = onto_front_first b pieces

pub split_begin : (p : ℕ → Bool) (xs : List ℕ) → onto_front [] (slice_split p xs) ≡ slice_split p xs
split_begin p [] = refl
split_begin p (x ∷ xs) = onto_front_none (p x) x (slice_split p xs) (slice_split p xs)

-- ## The first piece of a list that is split at a test

module _ (p : ℕ → Bool) (xs : List ℕ) (i : ℕ) (less : i < length xs) (whole : List (List ℕ)) (same : onto_front (take i xs) (slice_split p (drop i xs)) ≡ whole) where
  here : onto_front (take i xs) (cond (p (get_or xs i 0)) ([] ∷ slice_split p (drop (i + 1) xs)) (onto_first (get_or xs i 0) (slice_split p (drop (i + 1) xs)))) ≡ whole
  here = ap (λ l. onto_front (take i xs) (slice_split p l)) (sym (drop_more xs i 0 less)) ∙ same

  pub split_here : p (get_or xs i 0) ≡ true → whole ≡ take i xs ∷ slice_split p (drop (i + 1) xs)
  split_here is =
      sym here
      ∙ ap (λ v. onto_front (take i xs) (cond v ([] ∷ slice_split p (drop (i + 1) xs)) (onto_first (get_or xs i 0) (slice_split p (drop (i + 1) xs))))) is
      ∙ onto_front-end (take i xs) (slice_split p (drop (i + 1) xs))

  pub split_more : p (get_or xs i 0) ≡ false → onto_front (take (i + 1) xs) (slice_split p (drop (i + 1) xs)) ≡ whole
  split_more not =
      ap (λ l. onto_front l (slice_split p (drop (i + 1) xs))) (take_more xs i 0 less)
      ∙ onto_front-push (take i xs) (get_or xs i 0) (slice_split p (drop (i + 1) xs))
      ∙ ap (λ v. onto_front (take i xs) (cond v ([] ∷ slice_split p (drop (i + 1) xs)) (onto_first (get_or xs i 0) (slice_split p (drop (i + 1) xs))))) (sym not)
      ∙ here

pub split_end : (p : ℕ → Bool) (xs : List ℕ) (i : ℕ) (whole : List (List ℕ)) → length xs ≤ i → onto_front (take i xs) (slice_split p (drop i xs)) ≡ whole → whole ≡ xs ∷ []
split_end p xs i whole le same =
    sym same
    ∙ ap (λ l. onto_front (take i xs) (slice_split p l)) (drop_all i xs le)
    ∙ onto_front-end (take i xs) []
    ∙ ap (λ l. l ∷ []) (take_all i xs le)
