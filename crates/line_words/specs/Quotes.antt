-- Texts in quotes.
use Rattle.std.specs.Prelude.{ℕ, Bool, true, false, ◌||◌, cond, ◌==◌, List, [], ◌∷◌, ◌++◌, Option, None, Some}

abbrev pub is_quote : ℕ → Bool
is_quote b = b == 34

abbrev pub is_backslash : ℕ → Bool
is_backslash b = b == 92

-- The meaning of a backslash and the byte after it. Before a quote or a backslash it is dropped, before any other byte it is literal.
abbrev pub escape_of : ℕ → List ℕ
escape_of b = cond (is_quote b || is_backslash b) (b ∷ []) (92 ∷ b ∷ [])

-- A text, and the bytes after its closing quote.
abbrev pub QuotedFront : Type 0
QuotedFront = Option (List ℕ × List ℕ)

-- More bytes in front of the text.
abbrev pub with_bytes : List ℕ → QuotedFront → QuotedFront
with_bytes bytes None = None
with_bytes bytes (Some (text, rest)) = Some (bytes ++ text, rest)

-- The text after an opening quote, or None if no quote closes it. `escaped` means that a backslash is directly before.
abbrev pub quoted : Bool → List ℕ → QuotedFront
quoted escaped [] = None
quoted true (b ∷ bs) = with_bytes (escape_of b) (quoted false bs)
quoted false (b ∷ bs) = cond (is_quote b) (Some ([], bs)) (cond (is_backslash b) (quoted true bs) (with_bytes (b ∷ []) (quoted false bs)))
