-- The bytes that the texts of the spooler may contain.
use Rattle.std.specs.Prelude.{ℕ, Bool, ◌||◌, ◌&&◌, not, cond, nat_le, ◌==◌, List, length, codes, nat_eq, Option, None, Some}
use Rattle.std.specs.List.{list_all, list_any, before_first, after_first}
use Rattle.std.specs.Str.{is_utf8, str_to_ascii_lowercase}
use Rattle.std.specs.Cmp.Lexicographic.{pointwise}

-- The text has from `least` to `most` bytes, each of which passes the test.
abbrev pub is_text_of : (ℕ → Bool) → ℕ → ℕ → List ℕ → Bool
is_text_of passes least most text = nat_le least (length text) && nat_le (length text) most && list_all passes text

-- Not a control character: at least 32, and not 127.
abbrev pub is_plain : ℕ → Bool
is_plain b = nat_le 32 b && not (b == 127)

-- Printable ASCII, including the space.
abbrev pub is_printable : ℕ → Bool
is_printable b = nat_le 32 b && nat_le b 126

-- Printable ASCII except the space.
abbrev pub is_graphic : ℕ → Bool
is_graphic b = nat_le 33 b && nat_le b 126

abbrev pub is_lower_or_digit : ℕ → Bool
is_lower_or_digit b = (nat_le 97 b && nat_le b 122) || (nat_le 48 b && nat_le b 57)

abbrev pub is_letter_or_digit : ℕ → Bool
is_letter_or_digit b = is_lower_or_digit b || (nat_le 65 b && nat_le b 90)

-- Letters, digits and '-'.
abbrev pub is_attribute_byte : ℕ → Bool
is_attribute_byte b = is_letter_or_digit b || b == 45

-- Letters, digits, '-' and '_'.
abbrev pub is_queue_byte : ℕ → Bool
is_queue_byte b = is_attribute_byte b || b == 95

-- Letters, digits, '-', '_' and '.'.
abbrev pub is_word_byte : ℕ → Bool
is_word_byte b = is_queue_byte b || b == 46

-- Lower-case letters, digits and "!#$&^_.+-".
abbrev pub is_media_byte : ℕ → Bool
is_media_byte b = is_lower_or_digit b || b == 33 || b == 35 || b == 36 || b == 38 || b == 94 || b == 95 || b == 46 || b == 43 || b == 45

abbrev pub is_slash : ℕ → Bool
is_slash b = b == 47

abbrev pub is_user_name : List ℕ → Bool
is_user_name text = is_text_of is_plain 1 255 text

abbrev pub is_title : List ℕ → Bool
is_title text = is_text_of is_plain 0 255 text

-- A job's options as they are stored.
abbrev pub is_options : List ℕ → Bool
is_options text = is_text_of is_plain 0 2048 text

-- A description of a queue: its info or its location.
abbrev pub is_note : List ℕ → Bool
is_note text = is_text_of is_plain 0 127 text

-- A queue's message, or the value of an attribute.
abbrev pub is_message : List ℕ → Bool
is_message text = is_text_of is_printable 0 1023 text

-- The name of a document, with the maximum length of a command line.
abbrev pub is_file_name : List ℕ → Bool
is_file_name text = is_text_of is_plain 0 4096 text

abbrev pub is_uri : List ℕ → Bool
is_uri text = is_text_of is_graphic 1 1023 text

abbrev pub is_queue_name : List ℕ → Bool
is_queue_name text = is_text_of is_queue_byte 1 127 text

abbrev pub is_filter_name : List ℕ → Bool
is_filter_name text = is_text_of is_word_byte 1 127 text

-- A word of a queue's state, except "none", which means that no such word is set.
abbrev pub is_reason : List ℕ → Bool
is_reason text = is_text_of is_word_byte 1 127 text && not (pointwise nat_eq text (codes "none"))

abbrev pub is_attribute_name : List ℕ → Bool
is_attribute_name text = is_text_of is_attribute_byte 1 127 text

-- A type or a subtype.
abbrev pub is_media_part : List ℕ → Bool
is_media_part text = is_text_of is_media_byte 1 255 text

-- A type, a slash and a subtype. The text after the first slash is a part, so there is no second slash.
abbrev pub is_media_type : List ℕ → Bool
is_media_type text = nat_le (length text) 255 && list_any is_slash text && is_media_part (before_first is_slash text) && is_media_part (after_first is_slash text)

-- ## The words of a line as values

-- The word, if it is a text of this kind.
abbrev pub text_in : (List ℕ → Bool) → List ℕ → Option (List ℕ)
text_in allowed word = cond (is_utf8 word && allowed word) (Some word) None

-- The word with its capitals converted to lower case, if it is then a text of this kind.
abbrev pub folded_in : (List ℕ → Bool) → List ℕ → Option (List ℕ)
folded_in allowed word = cond (is_utf8 word && allowed (str_to_ascii_lowercase word)) (Some (str_to_ascii_lowercase word)) None

-- The media type, if the word is one.
abbrev pub media_in : List ℕ → Option (List ℕ)
media_in word = folded_in is_media_type word
