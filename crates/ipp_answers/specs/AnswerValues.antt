-- The values of attributes (RFC 8011, 5.1). A text outside the limits of its syntax has no value, and neither has a number beyond an integer.
use Rattle.std.specs.Prelude.{ℕ, pos, Bool, ◌&&◌, cond, nat_le, List, [], ◌∷◌, Option, None, Some}
use Rattle.ipp_values.specs.TextLimits.{is_text}
use Rattle.ipp_values.specs.declared.value.Value.{Value}
use Rattle.ipp_values.specs.declared.value.Value.TheVariants.{Unknown, NoValue, Integer, DateTime, Enum, Resolution, RangeOfInteger, Text, Name, Keyword, Uri, Charset, NaturalLanguage, MimeMediaType}
use Rattle.ipp_answers.specs.declared.timestamps.Timestamp.{Timestamp}
use Rattle.ipp_answers.specs.declared.values.Syntax.{Syntax}
use Rattle.ipp_answers.specs.declared.values.Syntax.TheVariants as syntaxes

abbrev pub most_integer : ℕ
most_integer = 2147483647

abbrev pub fits : ℕ → Bool
fits n = nat_le n most_integer

abbrev pub integer_of : ℕ → Value
integer_of n = cond (fits n) (Integer (pos n)) NoValue

abbrev pub enum_of : ℕ → Value
enum_of n = cond (fits n) (Enum (pos n)) NoValue

abbrev pub range_from : ℕ → ℕ → Value
range_from low high = cond (fits low && fits high) (RangeOfInteger (record { lower = pos low; upper = pos high })) NoValue

-- The same resolution in both directions, in dots per inch.
abbrev pub dots : ℕ → Value
dots n = cond (fits n) (Resolution (record { cross_feed = pos n; feed = pos n; units = 3 })) NoValue

-- ## Texts

abbrev pub text_value : List ℕ → Value
text_value text = cond (is_text 0 1023 255 text) (Text text) NoValue

abbrev pub name_value : List ℕ → Value
name_value text = cond (is_text 0 255 255 text) (Name text) NoValue

abbrev pub keyword_value : List ℕ → Value
keyword_value text = cond (is_text 1 255 127 text) (Keyword text) NoValue

abbrev pub uri_value : List ℕ → Value
uri_value text = cond (is_text 0 1023 127 text) (Uri text) NoValue

abbrev pub charset_value : List ℕ → Value
charset_value text = cond (is_text 0 63 127 text) (Charset text) NoValue

abbrev pub language_value : List ℕ → Value
language_value text = cond (is_text 0 63 127 text) (NaturalLanguage text) NoValue

abbrev pub type_value : List ℕ → Value
type_value text = cond (is_text 0 255 127 text) (MimeMediaType text) NoValue

abbrev pub string_value : Syntax → List ℕ → Value
string_value syntaxes.Text = text_value
string_value syntaxes.Name = name_value
string_value syntaxes.Keyword = keyword_value
string_value syntaxes.Uri = uri_value
string_value syntaxes.Charset = charset_value
string_value syntaxes.NaturalLanguage = language_value
string_value syntaxes.MimeMediaType = type_value

-- ## Lists of values

abbrev pub one : Value → List Value
one value = value ∷ []

-- No value at all, and so no attribute, if there is none.
abbrev pub of_option : {T : Type 0} → (T → Value) → Option T → List Value
of_option make None = []
of_option make (Some it) = make it ∷ []

-- ## Moments

-- The seconds since 1970, as CUPS has them in place of the seconds since the printer was started. Only known moments are answered.
abbrev pub seconds_of : Option Timestamp → Value
seconds_of None = NoValue
seconds_of (Some t) = integer_of t.seconds

abbrev pub date_value : Timestamp → Value
date_value t = DateTime t.date

abbrev pub date_or_unknown : Option Timestamp → Value
date_or_unknown None = Unknown
date_or_unknown (Some t) = date_value t
