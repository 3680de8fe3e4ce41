-- Examples of words, blanks and quotes.
use Rattle.std.specs.Prelude.{◌≡◌, true, false, [], ◌∷◌, map, None, Some}
use Rattle.std.specs.List.{list_any}
use Rattle.line_words.specs.Blanks.{is_blank, after_blanks, word_here, behind_word, first_word, after_word, trimmed}
use Rattle.line_words.specs.Quotes.{is_quote, is_backslash, escape_of, quoted}
use Rattle.text_examples.specs.Written.{text}

-- A word ends at a blank, and a line feed is no blank.
abbrev pub WordRows : Type 0
WordRows = first_word (text " ~ab,c~d ") ∷ after_word (text " ~ab,c~d ") ∷ word_here (text "ab| c") ∷ behind_word (text "ab| c") ∷ []
    ≡ text "ab,c" ∷ text "~d " ∷ text "ab|" ∷ text " c" ∷ []

-- Blanks are dropped at both ends, or at the front.
abbrev pub BlankRows : Type 0
BlankRows = trimmed (text " ~d e~") ∷ after_blanks (text " ~d e~") ∷ [] ≡ text "d e" ∷ text "d e~" ∷ []

-- A space, a tab, a line feed.
abbrev pub BlankByteRows : Type 0
BlankByteRows = map is_blank (32 ∷ 9 ∷ 10 ∷ []) ≡ true ∷ true ∷ false ∷ []

-- A quote closes a text, and the rest after it is returned.
abbrev pub QuotedRows : Type 0
QuotedRows = map (quoted false) (text "a b\" c" ∷ text "\"\"" ∷ text "a\\\"\\\\b\\n\"" ∷ text "a" ∷ text "a\\\"" ∷ text "\\" ∷ [])
    ≡ Some (text "a b", text " c") ∷ Some ([], text "\"") ∷ Some (text "a\"\\b\\n", []) ∷ None ∷ None ∷ None ∷ []

-- `"` and `'`; `\` and `/`.
abbrev pub QuoteByteRows : Type 0
QuoteByteRows = map is_quote (34 ∷ 39 ∷ []) ≡ true ∷ false ∷ []

abbrev pub BackslashRows : Type 0
BackslashRows = map is_backslash (92 ∷ 47 ∷ []) ≡ true ∷ false ∷ []

abbrev pub HasQuoteRows : Type 0
HasQuoteRows = map (list_any is_quote) (text "a\"" ∷ text "ab" ∷ []) ≡ true ∷ false ∷ []

-- A backslash before a quote, and before an n.
abbrev pub EscapeRows : Type 0
EscapeRows = map escape_of (34 ∷ 110 ∷ []) ≡ text "\"" ∷ text "\\n" ∷ []
