-- The tags of RFC 8010, 3.5, each with its number.
use Rattle.std.specs.Prelude.{◌≡◌, ◌<◌, ℕ, true, Option, Some, ◌==◌, List, [], ◌∷◌, find, if◌then◌else◌}
use Rattle.ipp_values.specs.declared.tags.GroupTag.{GroupTag}
use Rattle.ipp_values.specs.declared.tags.GroupTag.TheVariants as group
use Rattle.ipp_values.specs.declared.tags.ValueTag.{ValueTag}
use Rattle.ipp_values.specs.declared.tags.ValueTag.TheVariants as value
use Rattle.ipp_values.specs.Opaque.{is_opaque}

-- RFC 8010, 3.5.1; RFC 3995; PWG 5100.5; PWG 5100.22. 0x03 is the end of the attributes.
abbrev pub group_number : GroupTag → ℕ
group_number group.Operation = 0x01
group_number group.Job = 0x02
group_number group.Printer = 0x04
group_number group.Unsupported = 0x05
group_number group.Subscription = 0x06
group_number group.EventNotification = 0x07
group_number group.Resource = 0x08
group_number group.Document = 0x09
group_number group.System = 0x0a

abbrev pub group_tags : List GroupTag
group_tags = group.Operation ∷ group.Job ∷ group.Printer ∷ group.Unsupported ∷ group.Subscription ∷ group.EventNotification ∷ group.Resource ∷ group.Document ∷ group.System ∷ []

-- The tag with this number.
abbrev pub group_of : ℕ → Option GroupTag
group_of n = find (λ tag. group_number tag == n) group_tags

-- RFC 8010, 3.5.2: out-of-band values, integers, octet strings, character strings.
abbrev pub tag_number : ValueTag → ℕ
tag_number value.Unsupported = 0x10
tag_number value.Unknown = 0x12
tag_number value.NoValue = 0x13
tag_number value.Integer = 0x21
tag_number value.Boolean = 0x22
tag_number value.Enum = 0x23
tag_number value.OctetString = 0x30
tag_number value.DateTime = 0x31
tag_number value.Resolution = 0x32
tag_number value.RangeOfInteger = 0x33
tag_number value.BeginCollection = 0x34
tag_number value.TextWithLanguage = 0x35
tag_number value.NameWithLanguage = 0x36
tag_number value.EndCollection = 0x37
tag_number value.Text = 0x41
tag_number value.Name = 0x42
tag_number value.Keyword = 0x44
tag_number value.Uri = 0x45
tag_number value.UriScheme = 0x46
tag_number value.Charset = 0x47
tag_number value.NaturalLanguage = 0x48
tag_number value.MimeMediaType = 0x49
tag_number value.MemberName = 0x4a
tag_number (value.Opaque n) = n

abbrev pub value_tags : List ValueTag
value_tags = value.Unsupported ∷ value.Unknown ∷ value.NoValue ∷ value.Integer ∷ value.Boolean ∷ value.Enum ∷ value.OctetString ∷ value.DateTime ∷ value.Resolution ∷ value.RangeOfInteger ∷ value.BeginCollection ∷ value.TextWithLanguage ∷ value.NameWithLanguage ∷ value.EndCollection ∷ value.Text ∷ value.Name ∷ value.Keyword ∷ value.Uri ∷ value.UriScheme ∷ value.Charset ∷ value.NaturalLanguage ∷ value.MimeMediaType ∷ value.MemberName ∷ []

-- The tag with this number, if a document assigns it.
abbrev pub assigned_tag : ℕ → Option ValueTag
assigned_tag n = find (λ tag. tag_number tag == n) value_tags

-- The tag with this number. Those of delimiters are below 0x10.
abbrev pub tag_of_number : ℕ → Option ValueTag
tag_of_number n = if is_opaque n then Some (value.Opaque n) else assigned_tag n

-- The number of the tag is that of no other one.
abbrev pub HasOwnNumber : ValueTag → Type 0
HasOwnNumber (value.Opaque n) = (is_opaque n ≡ true) × (n < 256)
HasOwnNumber _ = Unit {0}
