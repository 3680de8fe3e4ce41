-- The arguments of tests: numbers, texts and values.
use Rattle.std.specs.Prelude.{ℕ, ◌+◌, ◌*◌, ◌/◌, ◌%◌, Bool, true, false, ◌||◌, cond, nat_le, ◌==◌, List, [], ◌∷◌, length, Option, None, Some}
use Rattle.spool_types.specs.declared.warning.WarningKind.TheVariants.{BadRule, BadNumber, BadText}
use Rattle.line_words.specs.Blanks.{is_blank, after_blanks, trimmed}
use Rattle.mime_lines.specs.RuleNumbers.{number_of, is_hex_digit, digit_value}
use Rattle.mime_rules.specs.RuleReading.{Read, read, wrong, on, before, from, closed_by}
use Rattle.mime_rules.specs.declared.arguments.Width.{Width}
use Rattle.mime_rules.specs.declared.arguments.Width.TheVariants.{Char, Short, Int}

abbrev pub is_close : ℕ → Bool
is_close b = b == 41

-- A comma or a closing parenthesis.
abbrev pub is_mark : ℕ → Bool
is_mark b = b == 44 || b == 41

-- A number, if it is valid and at most the first argument.
abbrev pub number_up_to : ℕ → Option ℕ → List ℕ → Read ℕ ℕ
number_up_to most None rest = wrong BadNumber
number_up_to most (Some n) rest = cond (nat_le n most) (read n rest) (wrong BadNumber)

-- The number up to the next mark.
abbrev pub number_at : ℕ → List ℕ → Read ℕ ℕ
number_at most bytes = number_up_to most (number_of (trimmed (before is_mark bytes))) (from is_mark bytes)

-- A number and the byte that must follow it.
abbrev pub number_then : ℕ → ℕ → List ℕ → Read ℕ ℕ
number_then c most bytes = on (λ n rest. on (λ _. read n) (closed_by c rest)) (number_at most bytes)

-- Where a byte of a text is: outside of runs, in quotes, or in hexadecimal digits.
pub data Run : Type 0 where
  bare : Run
  quoted : ℕ → Run
  hex : Run

abbrev pub is_quote : ℕ → Bool
is_quote b = b == 34 || b == 39

-- A byte in front of a text.
abbrev pub with_byte : ℕ → Read ℕ (List ℕ) → Read ℕ (List ℕ)
with_byte b text = on (λ t. read (b ∷ t)) text

abbrev pub is_close_next : List ℕ → Bool
is_close_next [] = false
is_close_next (b ∷ bs) = is_close b

-- Only blanks precede the closing parenthesis.
abbrev pub is_closing : List ℕ → Bool
is_closing bytes = is_close_next (after_blanks bytes)

-- A blank belongs to the text if the text continues after it.
abbrev pub with_blank : Bool → ℕ → Read ℕ (List ℕ) → Read ℕ (List ℕ)
with_blank true b text = text
with_blank false b text = with_byte b text

-- The byte of two hexadecimal digits.
abbrev pub pair_of : ℕ → ℕ → Option ℕ
pair_of b c = cond (is_hex_digit b) (cond (is_hex_digit c) (Some (16 * digit_value b + digit_value c)) None) None

abbrev pub with_pair : Option ℕ → Read ℕ (List ℕ) → Read ℕ (List ℕ)
with_pair None text = wrong BadText
with_pair (Some b) text = with_byte b text

-- The pair whose second digit is next.
abbrev pub pair_read : Option ℕ → List ℕ → Read ℕ ℕ
pair_read None rest = wrong BadText
pair_read (Some b) rest = read b rest

abbrev pub pair_at : ℕ → List ℕ → Read ℕ ℕ
pair_at b [] = wrong BadText
pair_at b (c ∷ bs) = pair_read (pair_of b c) bs

-- A text up to its closing parenthesis, and the rest.
abbrev pub text_from : Run → List ℕ → Read ℕ (List ℕ)
text_from bare [] = wrong BadRule
text_from (quoted q) [] = wrong BadText
text_from hex [] = wrong BadText
text_from bare (b ∷ bs) =
    cond (is_blank b) (with_blank (is_closing bs) b (text_from bare bs))
    (cond (is_close b) (read [] bs)
    (cond (is_quote b) (text_from (quoted b) bs)
    (cond (b == 60) (text_from hex bs)
    (with_byte b (text_from bare bs)))))
text_from (quoted q) (b ∷ bs) = cond (b == q) (text_from bare bs) (with_byte b (text_from (quoted q) bs))
text_from hex (b ∷ []) = cond (b == 62) (wrong BadRule) (wrong BadText)
text_from hex (b ∷ c ∷ bs) =
    cond (b == 62) (text_from bare (c ∷ bs)) (with_pair (pair_of b c) (text_from hex bs))

abbrev pub text_at : List ℕ → Read ℕ (List ℕ)
text_at bytes = text_from bare (after_blanks bytes)

-- The number of bytes of a value, the greatest value, and its bytes, most significant byte first.
abbrev pub width_of : Width → ℕ
width_of Char = 1
width_of Short = 2
width_of Int = 4

abbrev pub most_of : Width → ℕ
most_of Char = 255
most_of Short = 65535
most_of Int = 4294967295

abbrev pub value_bytes : Width → ℕ → List ℕ
value_bytes Char n = n ∷ []
value_bytes Short n = n / 256 ∷ n % 256 ∷ []
value_bytes Int n = n / 16777216 ∷ (n / 65536) % 256 ∷ (n / 256) % 256 ∷ n % 256 ∷ []

-- A text of this width.
abbrev pub text_of_width : Width → List ℕ → Read ℕ (List ℕ)
text_of_width w bytes = on (λ t rest. cond (length t == width_of w) (read t rest) (wrong BadText)) (text_at bytes)

-- A value: this number, or a text if it is not a number.
abbrev pub value_as : Width → Option ℕ → List ℕ → Read ℕ (List ℕ)
value_as w None bytes = text_of_width w bytes
value_as w (Some n) bytes = cond (nat_le n (most_of w)) (on (λ _. read (value_bytes w n)) (closed_by 41 (from is_close bytes))) (wrong BadNumber)

abbrev pub value_at : Width → List ℕ → Read ℕ (List ℕ)
value_at w bytes = value_as w (number_of (trimmed (before is_close bytes))) bytes
