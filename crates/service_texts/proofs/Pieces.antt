-- A list that grows by one piece for each item of another list.
use Rattle.std.proofs.Common.{◌≡◌, ℕ, ◌+◌, ◌<◌, List, [], ◌∷◌, ◌++◌, length, get_or, take, sym, ap, ◌∙◌, append_assoc}
use Rattle.std.specs.List.{flat_map}
use Rattle.std.proofs.lemmas.List.{append-nil, take_more}
use Rattle.std.proofs.lemmas.List.Concat.{flat_map-cons}
use Rattle.std.proofs.lemmas.Grind.{flat_map-append}

-- The pieces of one more item.
pub one_piece_more : {A X : Type 0} (piece : A → List X) (items : List A) (i : ℕ) (item : A) → item ≡ get_or items i item → i < length items → flat_map piece (take (i + 1) items) ≡ flat_map piece (take i items) ++ piece item
one_piece_more {A = A} {X = X} piece items i item is lt =
    let taken : take (i + 1) items ≡ take i items ++ item ∷ [] = take_more items i item lt ∙ ap (λ (x : A). take i items ++ x ∷ []) (sym is) in
    ap (flat_map piece) taken
    ∙ flat_map-append piece (take i items) (item ∷ [])
    ∙ ap (λ (l : List X). flat_map piece (take i items) ++ l) (flat_map-cons piece item [] ∙ append-nil (piece item))

-- The next piece was appended.
pub next_piece : {A X : Type 0} (piece : A → List X) (items : List A) (i : ℕ) (item : A) (start before after : List X) → item ≡ get_or items i item → i < length items → before ≡ start ++ flat_map piece (take i items) → after ≡ before ++ piece item → after ≡ start ++ flat_map piece (take (i + 1) items)
next_piece {X = X} piece items i item start before after is lt so_far added =
    added
    ∙ ap (λ (l : List X). l ++ piece item) so_far
    ∙ append_assoc start (flat_map piece (take i items)) (piece item)
    ∙ ap (λ (l : List X). start ++ l) (sym (one_piece_more piece items i item is lt))
