-- The words of a line, without their quotes.
use Rattle.std.specs.Prelude.{ℕ, zero, suc, Bool, true, false, cond, List, [], ◌∷◌, length, Option, None, Some}
use Rattle.std.specs.List.{list_any}
use Rattle.line_words.specs.Blanks.{is_blank, after_blanks, word_here, behind_word}
use Rattle.line_words.specs.Quotes.{is_quote, QuotedFront, quoted}

-- The beginning of a line: no word is left, a broken word, or a word and the bytes after it.
pub data Front : Type 0 where
  ended : Front
  broken : Front
  word : List ℕ → List ℕ → Front

-- A bare word extends to the next blank, and contains no quote.
abbrev pub bare_word : List ℕ → Front
bare_word line = cond (list_any is_quote (word_here line)) broken (word (word_here line) (behind_word line))

-- After the closing quote of a word comes a blank or the end of the line.
abbrev pub is_end : List ℕ → Bool
is_end [] = true
is_end (b ∷ bs) = is_blank b

abbrev pub quoted_word : QuotedFront → Front
quoted_word None = broken
quoted_word (Some (bytes, rest)) = cond (is_end rest) (word bytes rest) broken

-- The beginning of a line that does not begin with a blank.
abbrev pub front_here : List ℕ → Front
front_here [] = ended
front_here (b ∷ bs) = cond (is_quote b) (quoted_word (quoted false bs)) (bare_word (b ∷ bs))

abbrev pub next_word : List ℕ → Front
next_word line = front_here (after_blanks line)

-- The words with this one in front, unless one of them is broken.
abbrev pub with_word : List ℕ → Option (List (List ℕ)) → Option (List (List ℕ))
with_word w None = None
with_word w (Some words) = Some (w ∷ words)

-- This beginning, followed by the words that `reading` finds in the rest.
abbrev pub after_front : (List ℕ → Option (List (List ℕ))) → Front → Option (List (List ℕ))
after_front reading ended = Some []
after_front reading broken = None
after_front reading (word bytes rest) = with_word bytes (reading rest)

-- The words of a line. At most n are read.
unfoldable pub words_within : ℕ → List ℕ → Option (List (List ℕ))
words_within zero line = Some []
words_within (suc n) line = after_front (words_within n) (next_word line)

-- The words of a line, or None if one is broken. No line has more words than bytes.
unfoldable pub words_of : List ℕ → Option (List (List ℕ))
words_of line = words_within (length line) line
