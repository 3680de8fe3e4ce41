-- Reading a line from its front. Internal: no caller needs this.
use Rattle.std.specs.Prelude.{ℕ, false, cond, nat_le, List, [], ◌∷◌, length, Option, None, Some}
use Rattle.line_words.specs.Blanks.{is_blank, after_blanks}
use Rattle.line_words.specs.Quotes.{is_quote, QuotedFront, quoted}

-- A field that is not too long.
abbrev pub short_front : QuotedFront → QuotedFront
short_front None = None
short_front (Some (field, rest)) = cond (nat_le (length field) 1023) (Some (field, rest)) None

-- The bytes after an opening quote.
abbrev pub opened : List ℕ → Option (List ℕ)
opened [] = None
opened (b ∷ bs) = cond (is_quote b) (Some bs) None

-- The bytes after blanks and an opening quote.
abbrev pub behind_quote : List ℕ → Option (List ℕ)
behind_quote [] = None
behind_quote (b ∷ bs) = cond (is_blank b) (opened (after_blanks bs)) None

abbrev pub field_inside : Option (List ℕ) → QuotedFront
field_inside None = None
field_inside (Some inside) = short_front (quoted false inside)

-- The next field of a line.
unfoldable pub next_field : List ℕ → QuotedFront
next_field line = field_inside (behind_quote line)

-- A field that exists.
abbrev pub some_field : QuotedFront → Option (Option (List ℕ) × List ℕ)
some_field None = None
some_field (Some (field, rest)) = Some (Some field, rest)

-- The next field of a line that may end here.
abbrev pub next_if_any : List ℕ → Option (Option (List ℕ) × List ℕ)
next_if_any [] = Some (None, [])
next_if_any (b ∷ bs) = some_field (next_field (b ∷ bs))
