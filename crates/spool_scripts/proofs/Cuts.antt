-- A list around a part of it.
use Rattle.std.proofs.Common.{◌≡◌, ℕ, ◌+◌, ◌-◌, Bool, true, List, ◌++◌, eqb, length, take, drop, sym, ◌∙◌, ap, append_assoc}
use Rattle.std.proofs.lemmas.Bool.Decides.{Decides-eqb}
use Rattle.std.proofs.lemmas.List.{take-append-drop, take_rest, drop-drop}
use Rattle.std.proofs.lemmas.Slice.Eq.{slice_eq-Decides}
use Rattle.std.specs.List.{starts_with}

-- A list is the elements before a part, the part, and the elements after it.
pub around_part : (xs part : List ℕ) (at n : ℕ) → take n (drop at xs) ≡ part → xs ≡ take at xs ++ part ++ take (length xs - (at + n)) (drop (at + n) xs)
around_part xs part at n is =
    sym (take-append-drop at xs)
    ∙ ap (λ rest. take at xs ++ rest) (sym (take-append-drop n (drop at xs)) ∙ ap (λ p. p ++ drop n (drop at xs)) is ∙ ap (λ rest. part ++ rest) (drop-drop n at xs ∙ sym (take_rest xs (at + n))))
    ∙ sym (append_assoc (take at xs) part (take (length xs - (at + n)) (drop (at + n) xs)))

-- If the rest from an offset begins like the line, the line is at this offset.
pub begins_with : (script line : List ℕ) (at : ℕ) (r : Bool) → r ≡ starts_with eqb (take (length script - at) (drop at script)) line
    → (r ≡ true → take (length line) (drop at script) ≡ line) × (take (length line) (drop at script) ≡ line → r ≡ true)
begins_with script line at r is =
    let rest = take_rest script at in
    let same = ap (take (length line)) rest in
    let d = slice_eq-Decides Decides-eqb line (take (length line) (take (length script - at) (drop at script))) r is in
    ((λ t. sym (d.0 t ∙ same)), (λ here. d.1 (sym here ∙ sym same)))
