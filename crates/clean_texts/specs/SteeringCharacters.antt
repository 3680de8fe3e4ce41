-- The characters that steer: a terminal obeys them, they set the direction of text, or they end a line or hide. The numbers are those of
-- Unicode.
use Rattle.std.specs.Prelude.{ℕ, Bool, ◌||◌, ◌==◌}
use Rattle.std.specs.Int.{is_in_range}

-- Control characters (ECMA-48): C0, DEL and C1.
abbrev pub is_control_code : ℕ → Bool
is_control_code c = is_in_range 0 0x1F c || is_in_range 0x7F 0x9F c

-- The marks, embeddings, overrides and isolates of the bidirectional algorithm (UAX 9, section 2).
abbrev pub sets_direction : ℕ → Bool
sets_direction c = c == 0x61C || is_in_range 0x200E 0x200F c || is_in_range 0x202A 0x202E c || is_in_range 0x2066 0x2069 c

-- The separators of lines and paragraphs.
abbrev pub breaks_a_line : ℕ → Bool
breaks_a_line c = is_in_range 0x2028 0x2029 c

-- Letters that are blank or invisible: Hangul fillers and Khmer inherent vowels.
abbrev pub is_filler : ℕ → Bool
is_filler c = is_in_range 0x115F 0x1160 c || is_in_range 0x17B4 0x17B5 c || c == 0x3164 || c == 0xFFA0

-- Format characters that show nothing, of the property Default_Ignorable_Code_Point (UAX 44): soft hyphen, grapheme joiner, vowel separator,
-- zero width space, byte order mark, word joiner, invisible operators and deprecated ones. Not among them are U+200C, U+200D and the
-- variation selectors, which choose the shape of their neighbors.
abbrev pub is_hidden : ℕ → Bool
is_hidden c = (c == 0xAD || c == 0x34F || c == 0x180E || c == 0x200B || c == 0xFEFF) || is_in_range 0x2060 0x2065 c || is_in_range 0x206A 0x206F c

-- Unassigned specials and annotations, shorthand and musical format characters, and tags.
abbrev pub is_special : ℕ → Bool
is_special c =
    is_in_range 0xFFF0 0xFFFB c || is_in_range 0x1BCA0 0x1BCA3 c || is_in_range 0x1D173 0x1D17A c || is_in_range 0xE0000 0xE00FF c
    || is_in_range 0xE01F0 0xE0FFF c

unfoldable pub steers : ℕ → Bool
steers c = is_control_code c || sets_direction c || breaks_a_line c || is_filler c || is_hidden c || is_special c
