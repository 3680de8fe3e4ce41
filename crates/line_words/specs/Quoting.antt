-- Quotes and backslashes in a text whose words may contain them. Single and double quotes quote, and a backslash takes the next byte
-- literally, in quotes too.
use Rattle.std.specs.Prelude.{ℕ, Bool, true, false, ◌&&◌, ◌||◌, not, cond, ◌==◌, List, [], ◌∷◌}
use Rattle.std.specs.List.{onto_first}
use Rattle.line_words.specs.Blanks.{is_blank}
use Rattle.line_words.specs.declared.quoting.Quoting.{Quoting}
use Rattle.line_words.specs.declared.quoting.Quoting.TheVariants.{Bare, Single, Double, BareEscaped, SingleEscaped, DoubleEscaped}

-- A backslash or a quote.
abbrev pub is_quoting : ℕ → Bool
is_quoting b = b == 92 || (b == 39 || b == 34)

-- The position of the byte after this one.
abbrev pub next : Quoting → ℕ → Quoting
next Bare b = cond (b == 92) BareEscaped (cond (b == 39) Single (cond (b == 34) Double Bare))
next Single b = cond (b == 92) SingleEscaped (cond (b == 39) Bare Single)
next Double b = cond (b == 92) DoubleEscaped (cond (b == 34) Bare Double)
next BareEscaped b = Bare
next SingleEscaped b = Single
next DoubleEscaped b = Double

-- The byte belongs to the value: it is escaped, or neither a backslash nor a quote that opens or closes.
abbrev pub keeps : Quoting → ℕ → Bool
keeps Bare b = not (is_quoting b)
keeps Single b = not (b == 92 || b == 39)
keeps Double b = not (b == 92 || b == 34)
keeps BareEscaped b = true
keeps SingleEscaped b = true
keeps DoubleEscaped b = true

abbrev pub is_bare : Quoting → Bool
is_bare Bare = true
is_bare Single = false
is_bare Double = false
is_bare BareEscaped = false
is_bare SingleEscaped = false
is_bare DoubleEscaped = false

-- A blank that is neither in quotes nor escaped.
abbrev pub is_cut : Quoting → ℕ → Bool
is_cut quote_state b = is_blank b && is_bare quote_state

-- The value of the bytes: the bytes that belong to it.
abbrev pub said : Quoting → List ℕ → List ℕ
said quote_state [] = []
said quote_state (b ∷ bs) = cond (keeps quote_state b) (b ∷ said (next quote_state b) bs) (said (next quote_state b) bs)

-- The position after these bytes.
abbrev pub place_after : Quoting → List ℕ → Quoting
place_after quote_state [] = quote_state
place_after quote_state (b ∷ bs) = place_after (next quote_state b) bs

-- The pieces between the blanks that end words. Between two adjacent blanks the piece is empty.
abbrev pub pieces : Quoting → List ℕ → List (List ℕ)
pieces quote_state [] = [] ∷ []
pieces quote_state (b ∷ bs) = cond (is_cut quote_state b) ([] ∷ pieces Bare bs) (onto_first b (pieces (next quote_state b) bs))
