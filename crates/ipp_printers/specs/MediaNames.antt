-- Self-describing names of media sizes (PWG 5101.1, section 5), such as `iso_a4_210x297mm` and `na_letter_8.5x11in`.
use Rattle.std.specs.Prelude.{ℕ, ◌+◌, ◌-◌, ◌*◌, ◌/◌, ◌^◌, Bool, false, ◌||◌, ◌&&◌, cond, nat_eq, nat_le, ◌==◌, List, [], ◌∷◌, length, ◌++◌, take, drop, codes, Option, None, Some}
use Rattle.std.specs.Option.{option_map, option_and_then}
use Rattle.std.specs.Cmp.Lexicographic.{pointwise}
use Rattle.line_words.specs.DecimalNumbers.{decimal}
use Rattle.spool_types.specs.Values.{is_text_of, is_lower_or_digit, text_in}
use Rattle.ipp_printers.specs.declared.media.MediaSize.{MediaSize}

-- The same bytes.
abbrev pub same : List ℕ → List ℕ → Bool
same text other = pointwise nat_eq text other

-- ## Keywords (RFC 8011, section 5.1.4)

abbrev pub is_small_letter : ℕ → Bool
is_small_letter b = nat_le 97 b && nat_le b 122

-- A lower-case letter, a digit, or one of `-._`.
abbrev pub is_keyword_byte : ℕ → Bool
is_keyword_byte b = is_lower_or_digit b || b == 45 || b == 46 || b == 95

abbrev pub begins_small : List ℕ → Bool
begins_small [] = false
begins_small (b ∷ bs) = is_small_letter b

-- A lower-case letter and then at most 254 more bytes.
abbrev pub is_keyword : List ℕ → Bool
is_keyword text = begins_small text && is_text_of is_keyword_byte 1 255 text

-- ## Sizes

-- More bytes in front.
abbrev pub with_front : List ℕ → Option (List ℕ × List ℕ) → Option (List ℕ × List ℕ)
with_front bytes None = None
with_front bytes (Some (before, after)) = Some (bytes ++ before, after)

-- The bytes before the first such byte, and those after it.
abbrev pub parted : ℕ → List ℕ → Option (List ℕ × List ℕ)
parted mark [] = None
parted mark (b ∷ bs) = cond (b == mark) (Some ([], bs)) (with_front (b ∷ []) (parted mark bs))

-- Hundredths of a millimetre in a unit of length.
abbrev pub unit_of : List ℕ → Option ℕ
unit_of word = cond (same word (codes "mm")) (Some 100) (cond (same word (codes "in")) (Some 2540) None)

-- The digits after the point, as a part of the unit. The rest of a hundredth of a millimetre is dropped.
abbrev pub fraction_of : ℕ → List ℕ → Option ℕ
fraction_of unit digits = cond (nat_le (length digits) 4) (option_map (λ n. n * unit / 10 ^ length digits) (decimal 9999 digits)) None

abbrev pub whole_of : ℕ → List ℕ → Option ℕ
whole_of unit digits = option_map (λ n. n * unit) (decimal 99999 digits)

abbrev pub sum_of : Option ℕ → Option ℕ → Option ℕ
sum_of (Some a) (Some b) = Some (a + b)
sum_of a b = None

-- Digits, or digits, a point and digits. With parts around the point, if there is one.
abbrev pub length_of : ℕ → List ℕ → Option (List ℕ × List ℕ) → Option ℕ
length_of unit word None = whole_of unit word
length_of unit word (Some (whole, fraction)) = sum_of (whole_of unit whole) (fraction_of unit fraction)

-- A length in hundredths of a millimetre.
abbrev pub length_in : ℕ → List ℕ → Option ℕ
length_in unit word = length_of unit word (parted 46 word)

abbrev pub size_between : Option ℕ → Option ℕ → Option (ℕ × ℕ)
size_between (Some width) (Some height) = cond (nat_le 1 width && nat_le 1 height) (Some (width, height)) None
size_between width height = None

-- WIDTHxHEIGHT in this unit.
abbrev pub size_by : List ℕ → ℕ → Option (ℕ × ℕ)
size_by text unit = option_and_then (λ p. size_between (length_in unit p.0) (length_in unit p.1)) (parted 120 text)

-- WIDTHxHEIGHT and then `mm` or `in`.
abbrev pub size_in : List ℕ → Option (ℕ × ℕ)
size_in text = cond (nat_le 2 (length text)) (option_and_then (size_by (take (length text - 2) text)) (unit_of (drop (length text - 2) text))) None

-- The width and the height of CLASS_NAME_SIZE, in hundredths of a millimetre.
abbrev pub size_of : List ℕ → Option (ℕ × ℕ)
size_of name = option_and_then (λ p. option_and_then (λ q. size_in q.1) (parted 95 p.1)) (parted 95 name)

-- NAME of CLASS_NAME_SIZE.
abbrev pub name_before : Option (List ℕ × List ℕ) → List ℕ
name_before None = []
name_before (Some (name, rest)) = name

abbrev pub name_behind : Option (List ℕ × List ℕ) → List ℕ
name_behind None = []
name_behind (Some (class, rest)) = name_before (parted 95 rest)

abbrev pub short_name : List ℕ → List ℕ
short_name name = name_behind (parted 95 name)

abbrev pub media_of : Option (List ℕ) → Option (ℕ × ℕ) → Option MediaSize
media_of (Some name) (Some size) = Some (record { name = name; width = size.0; height = size.1 })
media_of name size = None

-- The size of paper that the word names.
abbrev pub media_in : List ℕ → Option MediaSize
media_in word = media_of (text_in is_keyword word) (size_of word)
