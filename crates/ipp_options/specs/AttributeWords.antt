-- The values of attributes that are a single word or number.
use Rattle.std.specs.Prelude.{ℕ, ℤ, pos, negsuc, Bool, false, nat_eq, List, [], ◌∷◌, Option, None, Some}
use Rattle.std.specs.Option.{option_and_then}
use Rattle.std.specs.Cmp.Lexicographic.{pointwise}
use Rattle.ipp_values.specs.declared.value.Value.{Value}
use Rattle.ipp_values.specs.declared.value.Value.TheVariants.{Integer, Enum, Keyword, Name}

-- The same bytes.
abbrev pub same : List ℕ → List ℕ → Bool
same text other = pointwise nat_eq text other

-- The word is this one.
abbrev pub is_same_word : List ℕ → Option (List ℕ) → Bool
is_same_word word None = false
is_same_word word (Some other) = same other word

-- The value of an attribute with one value.
abbrev pub only : List Value → Option Value
only (value ∷ []) = Some value
only values = None

-- A number that is not negative.
abbrev pub natural_of : ℤ → Option ℕ
natural_of (pos n) = Some n
natural_of (negsuc n) = None

-- A keyword or a name.
abbrev pub word_of : Value → Option (List ℕ)
word_of (Keyword text) = Some text
word_of (Name text) = Some text
word_of value = None

abbrev pub integer_of : Value → Option ℕ
integer_of (Integer n) = natural_of n
integer_of value = None

abbrev pub enum_of : Value → Option ℕ
enum_of (Enum n) = natural_of n
enum_of value = None

abbrev pub word_in : List Value → Option (List ℕ)
word_in values = option_and_then word_of (only values)

abbrev pub integer_in : List Value → Option ℕ
integer_in values = option_and_then integer_of (only values)

abbrev pub enum_in : List Value → Option ℕ
enum_in values = option_and_then enum_of (only values)
