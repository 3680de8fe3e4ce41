-- Texts in which no character steers. U+FFFD, the replacement character, stands for each one that would.
use Rattle.std.specs.Prelude.{ℕ, ◌*◌, ◌≤◌, ◌≡◌, Bool, false, cond, List, length, map, chars, encode_utf8_all, IsUtf8}
use Rattle.std.specs.List.{list_any}
use Rattle.std.specs.Str.Lossy.{utf8_lossy}
use Rattle.clean_texts.specs.SteeringCharacters.{steers}

abbrev pub clean_char : ℕ → ℕ
clean_char c = cond (steers c) 0xFFFD c

-- The text with U+FFFD for each character that steers.
abbrev pub clean_text : List ℕ → List ℕ
clean_text text = encode_utf8_all (map clean_char (chars text))

-- The same for bytes that may not be UTF-8: U+FFFD also stands for each invalid sequence.
abbrev pub clean_bytes : List ℕ → List ℕ
clean_bytes bytes = clean_text (utf8_lossy bytes)

-- A character of the text steers.
abbrev pub is_steered : List ℕ → Bool
is_steered text = list_any steers (chars text)

-- ## Laws

-- A text in which no character steers is not changed.
abbrev pub AreUnchanged : Type 0
AreUnchanged = (text : List ℕ) → IsUtf8 text → is_steered text ≡ false → clean_text text ≡ text

-- A clean text is not changed again.
abbrev pub StayClean : Type 0
StayClean = (text : List ℕ) → IsUtf8 text → clean_text (clean_text text) ≡ clean_text text

-- A clean text has the same number of characters, and at most three times the bytes.
abbrev pub AreBounded : Type 0
AreBounded =
    (text : List ℕ) → IsUtf8 text →
    (length (chars (clean_text text)) ≡ length (chars text)) × (length (clean_text text) ≤ 3 * length text)
