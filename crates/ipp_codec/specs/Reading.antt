-- Reading a message from left to right, up to the first fault.
use Rattle.std.specs.Prelude.{ℕ, ℤ, ◌-◌, zero, suc, List, [], ◌∷◌, length, take, drop, slice_index, Bool, true, false, ◌&&◌, Result, Ok, Err, Option, Some, None, nat_lt, nat_le, ◌==◌, if◌then◌else◌}
use Rattle.std.specs.Int.{Width, w8, w16, w32, byte_len, from_be_bytes, cast_signed}
use Rattle.std.specs.Str.{is_utf8}
use Rattle.ipp_values.specs.declared.tags.GroupTag.{GroupTag}
use Rattle.ipp_values.specs.declared.tags.ValueTag.{ValueTag}
use Rattle.ipp_values.specs.declared.tags.ValueTag.TheVariants as tags
use Rattle.ipp_values.specs.declared.value.Value.{Value}
use Rattle.ipp_values.specs.declared.value.Value.TheVariants as value
use Rattle.ipp_values.specs.declared.value.DateTime.{DateTime}
use Rattle.ipp_values.specs.declared.value.Resolution.{Resolution}
use Rattle.ipp_values.specs.declared.value.RangeOfInteger.{RangeOfInteger}
use Rattle.ipp_values.specs.declared.message.Attribute.{Attribute}
use Rattle.ipp_values.specs.declared.message.Group.{Group}
use Rattle.ipp_values.specs.declared.message.Message.{Message}
use Rattle.ipp_values.specs.TextLimits.{is_text}
use Rattle.ipp_values.specs.Tags.{tag_of_number, group_of}
use Rattle.ipp_codec.specs.declared.fault.DecodeFault.{DecodeFault}
use Rattle.ipp_codec.specs.declared.fault.DecodeFault.TheVariants.{NeedMore, TooLarge, Delimiter, Name, Length, Text, Boolean, Collection}
use Rattle.ipp_codec.specs.declared.place.Place.{Place}
use Rattle.ipp_codec.specs.declared.place.Place.TheVariants.{Outside}
use Rattle.ipp_codec.specs.Collections.{after_tag, is_outside}
use Rattle.ipp_codec.specs.MessageSpelling.{value_count}
use Rattle.ipp_codec.specs.Octets.{is_length, may_begin}
use Rattle.ipp_codec.specs.ReadSteps.{Field, ◌>>=◌}

-- The value if it passes a test, otherwise the fault.
unfoldable pub checked : {A : Type 0} → DecodeFault → Bool → A → Result A DecodeFault
checked fault passes x = if passes then Ok x else Err fault

unfoldable pub part_at : DecodeFault → ℕ → List ℕ → Field (List ℕ)
part_at fault n octets = if nat_lt (length octets) n then Err fault else Ok (take n octets, drop n octets)

unfoldable pub number_at : DecodeFault → Width → List ℕ → Field ℕ
number_at fault w octets = do
  part ← part_at fault (byte_len w) octets
  Ok (from_be_bytes w part.0, part.1)

-- ---- values

unfoldable pub text_of : ℕ → ℕ → ℕ → List ℕ → Result (List ℕ) DecodeFault
text_of least most highest octets = if is_utf8 octets && is_text least most highest octets then Ok octets else Err Text

unfoldable pub integer_of : List ℕ → ℤ
integer_of octets = cast_signed w32 (from_be_bytes w32 octets)

unfoldable pub boolean_of : ℕ → Result Bool DecodeFault
boolean_of n = if n == 0 then Ok false else (if n == 1 then Ok true else Err Boolean)

-- A length in two octets and that many octets, within a value.
unfoldable pub counted_at : List ℕ → Field (List ℕ)
counted_at octets = do
  n ← number_at Length w16 octets
  part_at Length n.0 n.1

-- A natural language and a text, and nothing after them.
unfoldable pub localized_of : ℕ → List ℕ → Result (List ℕ × List ℕ) DecodeFault
localized_of most octets = do
  language ← counted_at octets
  text ← counted_at language.1
  ended ← checked {A = ℕ} Length (length text.1 == 0) 0
  tested ← text_of 0 63 127 language.0
  shown ← text_of 0 most 255 text.0
  Ok (tested, shown)

abbrev pub date_of : List ℕ → DateTime
date_of octets = record {
  year = from_be_bytes w16 (take 2 octets);
  month = slice_index octets 2;
  day = slice_index octets 3;
  hour = slice_index octets 4;
  minute = slice_index octets 5;
  second = slice_index octets 6;
  deciseconds = slice_index octets 7;
  utc_direction = slice_index octets 8;
  utc_hours = slice_index octets 9;
  utc_minutes = slice_index octets 10;
}

abbrev pub resolution_of : List ℕ → Resolution
resolution_of octets = record { cross_feed = integer_of (take 4 octets); feed = integer_of (take 4 (drop 4 octets)); units = slice_index octets 8 }

abbrev pub range_of : List ℕ → RangeOfInteger
range_of octets = record { lower = integer_of (take 4 octets); upper = integer_of (take 4 (drop 4 octets)) }

unfoldable pub value_of : ValueTag → List ℕ → Result Value DecodeFault
value_of tags.Unsupported octets = Ok value.Unsupported
value_of tags.Unknown octets = Ok value.Unknown
value_of tags.NoValue octets = Ok value.NoValue
value_of tags.Integer octets = Ok (value.Integer (integer_of octets))
value_of tags.Boolean octets = do
  flag ← boolean_of (slice_index octets 0)
  Ok (value.Boolean flag)
value_of tags.Enum octets = Ok (value.Enum (integer_of octets))
value_of tags.OctetString octets = Ok (value.OctetString octets)
value_of tags.DateTime octets = Ok (value.DateTime (date_of octets))
value_of tags.Resolution octets = Ok (value.Resolution (resolution_of octets))
value_of tags.RangeOfInteger octets = Ok (value.RangeOfInteger (range_of octets))
value_of tags.BeginCollection octets = Ok value.BeginCollection
value_of tags.TextWithLanguage octets = do
  both ← localized_of 1023 octets
  Ok (value.TextWithLanguage (record { language = both.0; text = both.1 }))
value_of tags.NameWithLanguage octets = do
  both ← localized_of 255 octets
  Ok (value.NameWithLanguage (record { language = both.0; name = both.1 }))
value_of tags.EndCollection octets = Ok value.EndCollection
value_of tags.Text octets = do
  text ← text_of 0 1023 255 octets
  Ok (value.Text text)
value_of tags.Name octets = do
  text ← text_of 0 255 255 octets
  Ok (value.Name text)
value_of tags.Keyword octets = do
  text ← text_of 1 255 127 octets
  Ok (value.Keyword text)
value_of tags.Uri octets = do
  text ← text_of 0 1023 127 octets
  Ok (value.Uri text)
value_of tags.UriScheme octets = do
  text ← text_of 0 63 127 octets
  Ok (value.UriScheme text)
value_of tags.Charset octets = do
  text ← text_of 0 63 127 octets
  Ok (value.Charset text)
value_of tags.NaturalLanguage octets = do
  text ← text_of 0 63 127 octets
  Ok (value.NaturalLanguage text)
value_of tags.MimeMediaType octets = do
  text ← text_of 0 255 127 octets
  Ok (value.MimeMediaType text)
value_of tags.MemberName octets = do
  name ← text_of 1 255 127 octets
  Ok (value.MemberName name)
value_of (tags.Opaque n) octets = Ok (value.Opaque (record { tag = n; octets = octets }))

-- ---- an attribute

abbrev pub tag_or : Option ValueTag → Result ValueTag DecodeFault
tag_or (Some tag) = Ok tag
tag_or None = Err Delimiter

unfoldable pub value_tag_of : ℕ → Result ValueTag DecodeFault
value_tag_of n = tag_or (tag_of_number n)

unfoldable pub tag_at : List ℕ → Field ValueTag
tag_at octets = do
  n ← number_at NeedMore w8 octets
  tag ← value_tag_of n.0
  Ok (tag, n.1)

-- Whether the first of the octets passes a test, if there is one.
abbrev pub first_passes : (ℕ → Bool) → List ℕ → Bool
first_passes test [] = true
first_passes test (octet ∷ octets) = test octet

-- value-length and value. Each octet of the length is examined before the next one has arrived.
unfoldable pub value_at : ValueTag → List ℕ → Field Value
value_at tag octets = do
  begun ← checked {A = ℕ} Length (first_passes (may_begin tag) octets) 0
  n ← number_at NeedMore w16 octets
  long ← checked Length (is_length tag n.0) n.0
  part ← part_at NeedMore long n.1
  v ← value_of tag part.0
  Ok (v, part.1)

-- A name has at most 255 octets, so the first octet of its length is 0.
abbrev pub name_begins : List ℕ → Bool
name_begins octets = first_passes (λ high. high == 0) octets

-- name-length and name of an attribute.
unfoldable pub name_at : List ℕ → Field (List ℕ)
name_at octets = do
  begun ← checked {A = ℕ} Name (name_begins octets) 0
  n ← number_at NeedMore w16 octets
  long ← checked Name (nat_le 1 n.0 && nat_le n.0 255) n.0
  part ← part_at NeedMore long n.1
  name ← text_of 1 255 127 part.0
  Ok (name, part.1)

-- Whether an additional value follows: a value tag and a name of length 0. A value with a name, which begins another attribute, is
-- examined here too: its tag may be at this place, or values have not ended here.
unfoldable pub follows : Place → List ℕ → Result Bool DecodeFault
follows place octets = do
  tag ← number_at NeedMore w8 octets
  if nat_lt tag.0 16 then Ok false else (do
    kind ← value_tag_of tag.0
    next ← after_tag place kind
    begun ← checked {A = ℕ} Name (name_begins tag.1) 0
    n ← number_at NeedMore w16 tag.1
    Ok (n.0 == 0))

-- A name of length 0.
unfoldable pub no_name_at : List ℕ → Field ℕ
no_name_at octets = do
  n ← number_at NeedMore w16 octets
  checked Name (n.0 == 0) n

-- An additional value, with the place after it.
unfoldable pub additional_at : Place → List ℕ → Field (Place × Value)
additional_at place octets = do
  tag ← tag_at octets
  name ← no_name_at tag.1
  next ← after_tag place tag.0
  v ← value_at tag.0 name.1
  Ok ((next, v.0), v.1)

-- The additional values of an attribute, after values that end at a place.
unfoldable pub values_at : ℕ → Place → List ℕ → Field (List Value)
values_at zero place octets = Err TooLarge
values_at (suc n) place octets = do
  more ← follows place octets
  if more then (do
    v ← additional_at place octets
    vs ← values_at n v.0.0 v.1
    Ok (v.0.1 ∷ vs.0, vs.1)) else checked Collection (is_outside place) ([], octets)

unfoldable pub attribute_at : ℕ → List ℕ → Field Attribute
attribute_at most octets = do
  tag ← tag_at octets
  next ← after_tag Outside tag.0
  name ← name_at tag.1
  v ← value_at tag.0 name.1
  vs ← values_at most next v.1
  Ok (record { name = name.0; values = v.0 ∷ vs.0 }, vs.1)

-- ---- groups

-- The attributes of a group, up to the next delimiter.
unfoldable pub attributes_at : ℕ → ℕ → List ℕ → Field (List Attribute)
attributes_at most zero octets = Err TooLarge
attributes_at most (suc n) octets = do
  tag ← number_at NeedMore w8 octets
  if nat_lt tag.0 16 then Ok ([], octets) else (do
    a ← attribute_at most octets
    others ← attributes_at most n a.1
    Ok (a.0 ∷ others.0, others.1))

abbrev pub group_or : Option GroupTag → Result GroupTag DecodeFault
group_or (Some tag) = Ok tag
group_or None = Err Delimiter

-- The group after its tag.
abbrev pub group_at : ℕ → ℕ → List ℕ → Field Group
group_at most number octets = do
  tag ← group_or (group_of number)
  list ← attributes_at most most octets
  Ok (record { tag = tag; attributes = list.0 }, list.1)

-- The groups, up to the end of the attributes.
unfoldable pub groups_at : ℕ → ℕ → List ℕ → Field (List Group)
groups_at most zero octets = Err TooLarge
groups_at most (suc n) octets = do
  number ← number_at NeedMore w8 octets
  if number.0 == 3 then Ok ([], number.1) else (do
    g ← group_at most number.0 number.1
    gs ← groups_at most n g.1
    Ok (g.0 ∷ gs.0, gs.1))

unfoldable pub message_at : ℕ → List ℕ → Field Message
message_at most octets = do
  major ← number_at NeedMore w8 octets
  minor ← number_at NeedMore w8 major.1
  code ← number_at NeedMore w16 minor.1
  request_id ← number_at NeedMore w32 code.1
  groups ← groups_at most most request_id.1
  Ok (record { version = record { major = major.0; minor = minor.0 }; code = code.0; request_id = cast_signed w32 request_id.0; groups = groups.0 }, groups.1)

-- ---- the limit

-- What has not ended within the limit is too large.
abbrev pub at_limit : Bool → DecodeFault → DecodeFault
at_limit is_long NeedMore = if is_long then TooLarge else NeedMore
at_limit is_long fault = fault

abbrev pub limited : {A : Type 0} → Bool → Result A DecodeFault → Result A DecodeFault
limited is_long (Ok x) = Ok x
limited is_long (Err fault) = Err (at_limit is_long fault)

-- The attributes have at most 65,536 octets, with the header.
abbrev pub window : List ℕ → List ℕ
window octets = take 65536 octets

-- The message, and how many octets it has. The octets after them are the document. Values are counted at the end.
unfoldable pub reading : List ℕ → Result (Message × ℕ) DecodeFault
reading octets = do
  m ← limited (nat_le 65536 (length octets)) (message_at (length (window octets)) (window octets))
  few ← checked {A = ℕ} TooLarge (nat_le (value_count m.0) 4096) 0
  Ok (m.0, length (window octets) - length m.1)
