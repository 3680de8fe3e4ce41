-- The tag and the text of a value, and what a message contains under a name.
use Rattle.std.specs.Prelude.{ℕ, List, Option, Some, None}
use Rattle.ipp_values.specs.declared.tags.ValueTag.{ValueTag}
use Rattle.ipp_values.specs.declared.tags.ValueTag.TheVariants as tags
use Rattle.ipp_values.specs.declared.value.Value.{Value}
use Rattle.ipp_values.specs.declared.value.Value.TheVariants.{Unsupported, Unknown, NoValue, Integer, Boolean, Enum, OctetString, DateTime, Resolution, RangeOfInteger, TextWithLanguage, NameWithLanguage, Text, Name, Keyword, Uri, UriScheme, Charset, NaturalLanguage, MimeMediaType, BeginCollection, MemberName, EndCollection, Opaque}

abbrev pub tag_of : Value → ValueTag
tag_of Unsupported = tags.Unsupported
tag_of Unknown = tags.Unknown
tag_of NoValue = tags.NoValue
tag_of (Integer _) = tags.Integer
tag_of (Boolean _) = tags.Boolean
tag_of (Enum _) = tags.Enum
tag_of (OctetString _) = tags.OctetString
tag_of (DateTime _) = tags.DateTime
tag_of (Resolution _) = tags.Resolution
tag_of (RangeOfInteger _) = tags.RangeOfInteger
tag_of (TextWithLanguage _) = tags.TextWithLanguage
tag_of (NameWithLanguage _) = tags.NameWithLanguage
tag_of (Text _) = tags.Text
tag_of (Name _) = tags.Name
tag_of (Keyword _) = tags.Keyword
tag_of (Uri _) = tags.Uri
tag_of (UriScheme _) = tags.UriScheme
tag_of (Charset _) = tags.Charset
tag_of (NaturalLanguage _) = tags.NaturalLanguage
tag_of (MimeMediaType _) = tags.MimeMediaType
tag_of BeginCollection = tags.BeginCollection
tag_of (MemberName _) = tags.MemberName
tag_of EndCollection = tags.EndCollection
tag_of (Opaque value) = tags.Opaque value.tag

-- The text of a character string.
abbrev pub text_of : Value → Option (List ℕ)
text_of (TextWithLanguage value) = Some value.text
text_of (NameWithLanguage value) = Some value.name
text_of (Text text) = Some text
text_of (Name text) = Some text
text_of (Keyword text) = Some text
text_of (Uri text) = Some text
text_of (UriScheme text) = Some text
text_of (Charset text) = Some text
text_of (NaturalLanguage text) = Some text
text_of (MimeMediaType text) = Some text
text_of _ = None
