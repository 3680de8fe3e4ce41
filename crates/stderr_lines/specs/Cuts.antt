-- Splitting at a byte.
use Rattle.std.specs.Prelude.{ℕ, cond, ◌==◌, List, [], ◌∷◌, Option, None, Some}
use Rattle.line_words.specs.Quotes.{with_bytes}

-- The bytes before the first byte c, and the bytes after it, if there is one.
abbrev pub cut_at : ℕ → List ℕ → Option (List ℕ × List ℕ)
cut_at c [] = None
cut_at c (b ∷ bs) = cond (b == c) (Some ([], bs)) (with_bytes (b ∷ []) (cut_at c bs))
