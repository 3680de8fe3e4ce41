-- The octets of values, and their limits (RFC 8010, 3.5.2 and 3.9; RFC 8011, 5.1).
use Rattle.std.specs.Prelude.{◌≡◌, ℕ, ℤ, ◌<◌, ◌≤◌, ◌^◌, List, [], ◌∷◌, ◌++◌, length, ◌*◌, Bool, true, ◌==◌, ◌&&◌, ◌||◌, nat_le, if◌then◌else◌, FitsSigned}
use Rattle.std.specs.Int.{w16, w32, to_be_bytes, cast_unsigned}
use Rattle.std.specs.Str.{is_utf8}
use Rattle.ipp_values.specs.declared.tags.ValueTag.{ValueTag}
use Rattle.ipp_values.specs.declared.tags.ValueTag.TheVariants as tags
use Rattle.ipp_values.specs.declared.value.Value.{Value}
use Rattle.ipp_values.specs.declared.value.Value.TheVariants.{Unsupported, Unknown, NoValue, Integer, Boolean, Enum, OctetString, DateTime, Resolution, RangeOfInteger, TextWithLanguage, NameWithLanguage, Text, Name, Keyword, Uri, UriScheme, Charset, NaturalLanguage, MimeMediaType, BeginCollection, MemberName, EndCollection, Opaque}
use Rattle.ipp_values.specs.declared.value.DateTime.{DateTime as DateTimeFields}
use Rattle.ipp_values.specs.TextLimits.{is_text}
use Rattle.ipp_values.specs.Opaque.{is_opaque}

-- SIGNED-INTEGER: four octets in two's complement.
abbrev pub integer_octets : ℤ → List ℕ
integer_octets n = to_be_bytes w32 (cast_unsigned w32 n)

-- The length in two octets, and the octets.
abbrev pub counted : List ℕ → List ℕ
counted octets = to_be_bytes w16 (length octets) ++ octets

-- DateAndTime (RFC 2579).
abbrev pub day_octets : DateTimeFields → List ℕ
day_octets d = to_be_bytes w16 d.year ++ d.month ∷ d.day ∷ d.hour ∷ d.minute ∷ []

abbrev pub clock_octets : DateTimeFields → List ℕ
clock_octets d = d.second ∷ d.deciseconds ∷ d.utc_direction ∷ d.utc_hours ∷ d.utc_minutes ∷ []

abbrev pub date_octets : DateTimeFields → List ℕ
date_octets d = day_octets d ++ clock_octets d

abbrev pub octets_of : Value → List ℕ
octets_of Unsupported = []
octets_of Unknown = []
octets_of NoValue = []
octets_of (Integer n) = integer_octets n
octets_of (Boolean b) = (if b then 1 else 0) ∷ []
octets_of (Enum n) = integer_octets n
octets_of (OctetString octets) = octets
octets_of (DateTime d) = date_octets d
octets_of (Resolution r) = integer_octets r.cross_feed ++ integer_octets r.feed ++ r.units ∷ []
octets_of (RangeOfInteger r) = integer_octets r.lower ++ integer_octets r.upper
octets_of (TextWithLanguage v) = counted v.language ++ counted v.text
octets_of (NameWithLanguage v) = counted v.language ++ counted v.name
octets_of (Text text) = text
octets_of (Name text) = text
octets_of (Keyword text) = text
octets_of (Uri text) = text
octets_of (UriScheme text) = text
octets_of (Charset text) = text
octets_of (NaturalLanguage text) = text
octets_of (MimeMediaType text) = text
octets_of BeginCollection = []
octets_of (MemberName name) = name
octets_of EndCollection = []
octets_of (Opaque v) = v.octets

-- The lengths that the octets of a value of a tag may have.
abbrev pub is_length : ValueTag → ℕ → Bool
is_length tags.Unsupported n = n == 0
is_length tags.Unknown n = n == 0
is_length tags.NoValue n = n == 0
is_length tags.Integer n = n == 4
is_length tags.Boolean n = n == 1
is_length tags.Enum n = n == 4
is_length tags.OctetString n = nat_le n 1023
is_length tags.DateTime n = n == 11
is_length tags.Resolution n = n == 9
is_length tags.RangeOfInteger n = n == 8
is_length tags.BeginCollection n = n == 0
is_length tags.TextWithLanguage n = nat_le 4 n && nat_le n 1090
is_length tags.NameWithLanguage n = nat_le 4 n && nat_le n 322
is_length tags.EndCollection n = n == 0
is_length tags.Text n = nat_le n 1023
is_length tags.Name n = nat_le n 255
is_length tags.Keyword n = nat_le 1 n && nat_le n 255
is_length tags.Uri n = nat_le n 1023
is_length tags.UriScheme n = nat_le n 63
is_length tags.Charset n = nat_le n 63
is_length tags.NaturalLanguage n = nat_le n 63
is_length tags.MimeMediaType n = nat_le n 255
is_length tags.MemberName n = nat_le 1 n && nat_le n 255
is_length (tags.Opaque _) n = nat_le n 32767

-- The first octet of a length that a value of the tag may have.
abbrev pub may_begin : ValueTag → ℕ → Bool
may_begin tag high = high == 0 || is_length tag (high * 256)

-- A character string of UTF-8 within its limits.
abbrev pub IsText : ℕ → ℕ → ℕ → List ℕ → Type 0
IsText least most highest text = (is_utf8 text ≡ true) × (is_text least most highest text ≡ true)

-- The numbers of a date fit their octets.
pub record IsDay (d : DateTimeFields) : Type 0 where
  pub year : d.year < 2 ^ 16
  pub month : d.month < 256
  pub day : d.day < 256
  pub hour : d.hour < 256
  pub minute : d.minute < 256

pub record IsClock (d : DateTimeFields) : Type 0 where
  pub second : d.second < 256
  pub deciseconds : d.deciseconds < 256
  pub utc_direction : d.utc_direction < 256
  pub utc_hours : d.utc_hours < 256
  pub utc_minutes : d.utc_minutes < 256

abbrev pub IsDate : DateTimeFields → Type 0
IsDate d = IsDay d × IsClock d

-- A value within its limits.
abbrev pub IsValue : Value → Type 0
IsValue Unsupported = Unit {0}
IsValue Unknown = Unit {0}
IsValue NoValue = Unit {0}
IsValue (Integer n) = FitsSigned w32 n
IsValue (Boolean _) = Unit {0}
IsValue (Enum n) = FitsSigned w32 n
IsValue (OctetString octets) = length octets ≤ 1023
IsValue (DateTime d) = IsDate d
IsValue (Resolution r) = FitsSigned w32 r.cross_feed × FitsSigned w32 r.feed × (r.units < 256)
IsValue (RangeOfInteger r) = FitsSigned w32 r.lower × FitsSigned w32 r.upper
IsValue (TextWithLanguage v) = IsText 0 63 127 v.language × IsText 0 1023 255 v.text
IsValue (NameWithLanguage v) = IsText 0 63 127 v.language × IsText 0 255 255 v.name
IsValue (Text text) = IsText 0 1023 255 text
IsValue (Name text) = IsText 0 255 255 text
IsValue (Keyword text) = IsText 1 255 127 text
IsValue (Uri text) = IsText 0 1023 127 text
IsValue (UriScheme text) = IsText 0 63 127 text
IsValue (Charset text) = IsText 0 63 127 text
IsValue (NaturalLanguage text) = IsText 0 63 127 text
IsValue (MimeMediaType text) = IsText 0 255 127 text
IsValue BeginCollection = Unit {0}
IsValue (MemberName name) = IsText 1 255 127 name
IsValue EndCollection = Unit {0}
IsValue (Opaque v) = (is_opaque v.tag ≡ true) × (v.tag < 256) × (length v.octets ≤ 32767)
