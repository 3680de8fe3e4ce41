-- The spelling of a message (RFC 8010, 3.1): its header, its groups, and the end of the attributes.
use Rattle.std.specs.Prelude.{◌≡◌, ◌≢◌, ℕ, ◌<◌, ◌^◌, ◌++◌, ◌∷◌, [], List, length, FitsSigned}
use Rattle.std.specs.Int.{w16, w32, to_be_bytes}
use Rattle.std.specs.List.{flat_map, sum_by, AllByRecursion}
use Rattle.ipp_values.specs.declared.value.Value.{Value}
use Rattle.ipp_values.specs.declared.message.Attribute.{Attribute}
use Rattle.ipp_values.specs.declared.message.Group.{Group}
use Rattle.ipp_values.specs.declared.message.Message.{Message}
use Rattle.ipp_values.specs.Tags.{group_number, tag_number}
use Rattle.ipp_values.specs.ValueTexts.{tag_of}
use Rattle.ipp_codec.specs.Collections.{AreWhole}
use Rattle.ipp_codec.specs.Octets.{counted, integer_octets, octets_of, IsText, IsValue}

-- value-tag, name-length, name, value-length, value (RFC 8010, 3.1.4 to 3.1.7).
abbrev pub value_spelling : List ℕ → Value → List ℕ
value_spelling name v = tag_number (tag_of v) ∷ counted name ++ counted (octets_of v)

-- The first value has the name of the attribute, each additional one a name of length 0 (RFC 8010, 3.1.5).
abbrev pub values_spelling : List ℕ → List Value → List ℕ
values_spelling name [] = []
values_spelling name (v ∷ vs) = value_spelling name v ++ flat_map (value_spelling []) vs

abbrev pub attribute_spelling : Attribute → List ℕ
attribute_spelling a = values_spelling a.name a.values

-- begin-attribute-group-tag, attributes (RFC 8010, 3.1.2).
abbrev pub group_spelling : Group → List ℕ
group_spelling g = group_number g.tag ∷ flat_map attribute_spelling g.attributes

-- version-number, operation-id or status-code, request-id (RFC 8010, 3.1.1).
abbrev pub header_spelling : Message → List ℕ
header_spelling m = m.version.major ∷ m.version.minor ∷ to_be_bytes w16 m.code ++ integer_octets m.request_id

-- The header, the groups, end-of-attributes-tag.
abbrev pub message_spelling : Message → List ℕ
message_spelling m = header_spelling m ++ flat_map group_spelling m.groups ++ 3 ∷ []

-- An attribute has a name, and one or more values that are whole.
pub record IsAttribute (a : Attribute) : Type 0 where
  pub name : IsText 1 255 127 a.name
  pub some : a.values ≢ []
  pub values : AllByRecursion IsValue a.values
  pub whole : AreWhole a.values

abbrev pub IsGroup : Group → Type 0
IsGroup g = AllByRecursion IsAttribute g.attributes

pub record IsHeader (m : Message) : Type 0 where
  pub major : m.version.major < 256
  pub minor : m.version.minor < 256
  pub code : m.code < 2 ^ 16
  pub request_id : FitsSigned w32 m.request_id

pub record IsMessage (m : Message) : Type 0 where
  pub header : IsHeader m
  pub groups : AllByRecursion IsGroup m.groups

-- How many values and marks of collections a message has.
abbrev pub values_of : Attribute → ℕ
values_of a = length a.values

abbrev pub values_in : Group → ℕ
values_in g = sum_by values_of g.attributes

abbrev pub value_count : Message → ℕ
value_count m = sum_by values_in m.groups

-- The octets spell the message.
pub record Spells (m : Message) (octets : List ℕ) : Type 0 where
  pub message : IsMessage m
  pub spelled : octets ≡ message_spelling m
