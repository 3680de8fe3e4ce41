-- Texts in a page: the five characters that have a meaning in HTML are written as character references.
use Rattle.std.specs.Prelude.{ℕ, Bool, ◌||◌, ◌≡◌, false, cond, ◌==◌, List, [], ◌∷◌, codes}
use Rattle.std.specs.List.{flat_map, list_any}

-- The text of a byte.
abbrev pub entity : ℕ → List ℕ
entity b =
    cond (b == 38) (codes "&amp;")
    (cond (b == 60) (codes "&lt;")
    (cond (b == 62) (codes "&gt;")
    (cond (b == 34) (codes "&quot;")
    (cond (b == 39) (codes "&#39;")
    (b ∷ [])))))

abbrev pub escaped : List ℕ → List ℕ
escaped text = flat_map entity text

-- A byte that would open or close a tag, or the value of an attribute.
abbrev pub is_markup : ℕ → Bool
is_markup b = b == 60 || b == 62 || b == 34 || b == 39

-- An escaped text contains none of these.
abbrev pub NoMarkup : Type 0
NoMarkup = (text : List ℕ) → list_any is_markup (escaped text) ≡ false
