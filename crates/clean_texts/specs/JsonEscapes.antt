-- The escapes of JSON (RFC 8259, section 7): `\u` and four digits for a unit of UTF-16. A character above U+FFFF has two units.
use Rattle.std.specs.Prelude.{ℕ, ◌+◌, ◌*◌, ◌-◌, ◌/◌, ◌%◌, ◌<◌, ◌≡◌, cond, nat_lt, ◌==◌, List, [], ◌∷◌, ◌++◌, length, drop, slice_index, codes, chars, encode_utf8}
use Rattle.std.specs.Char.{digit_char, digit_value}
use Rattle.std.specs.List.{flat_map}
use Rattle.clean_texts.specs.SteeringCharacters.{steers}

unfoldable pub unit_escape : ℕ → List ℕ
unit_escape unit =
    codes "\\u" ++ digit_char (unit / 4096) ∷ digit_char (unit / 256 % 16) ∷ digit_char (unit / 16 % 16) ∷ digit_char (unit % 16) ∷ []

abbrev pub high_unit : ℕ → ℕ
high_unit c = 0xD800 + (c - 0x10000) / 0x400

abbrev pub low_unit : ℕ → ℕ
low_unit c = 0xDC00 + (c - 0x10000) % 0x400

-- The escape of a character.
abbrev pub escape_of : ℕ → List ℕ
escape_of c = cond (nat_lt c 0x10000) (unit_escape c) (unit_escape (high_unit c) ++ unit_escape (low_unit c))

-- A character of a text of JSON: its escape if it steers.
abbrev pub json_bytes : ℕ → List ℕ
json_bytes c = cond (steers c) (escape_of c) (encode_utf8 c)

-- The text with the escapes of the characters that steer.
abbrev pub clean_json : List ℕ → List ℕ
clean_json json = flat_map json_bytes (chars json)

-- ## Reading

-- The value of four hexadecimal digits.
abbrev pub four_digits : ℕ → ℕ → ℕ → ℕ → ℕ
four_digits a b c d = ((digit_value a * 16 + digit_value b) * 16 + digit_value c) * 16 + digit_value d

-- The unit that an escape denotes.
abbrev pub unit_of : List ℕ → ℕ
unit_of escape = four_digits (slice_index escape 2) (slice_index escape 3) (slice_index escape 4) (slice_index escape 5)

-- The character that one escape denotes, or two.
abbrev pub char_of : List ℕ → ℕ
char_of escape =
    cond (length escape == 6) (unit_of escape) (0x10000 + (unit_of escape - 0xD800) * 0x400 + (unit_of (drop 6 escape) - 0xDC00))

-- The escape of each character denotes this character.
abbrev pub AreReadBack : Type 0
AreReadBack = (c : ℕ) → c < 0x110000 → char_of (escape_of c) ≡ c
