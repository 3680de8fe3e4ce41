-- The texts of values, by the syntax of their attribute (RFC 8011 5.1).
use Rattle.std.specs.Prelude.{ℕ, List, Option, Some, None}
use Rattle.ipp_values.specs.declared.value.Value.{Value}
use Rattle.ipp_values.specs.declared.value.Value.TheVariants as values
use Rattle.ipp_requests.specs.declared.syntax.Syntax.{Syntax}
use Rattle.ipp_requests.specs.declared.syntax.Syntax.TheVariants.{Charset, Keyword, MimeMediaType, Name, NaturalLanguage, Text, Uri}

abbrev pub charset_in : Value → Option (List ℕ)
charset_in (values.Charset text) = Some text
charset_in _ = None

abbrev pub keyword_in : Value → Option (List ℕ)
keyword_in (values.Keyword text) = Some text
keyword_in _ = None

abbrev pub media_type_in : Value → Option (List ℕ)
media_type_in (values.MimeMediaType text) = Some text
media_type_in _ = None

-- With or without a language.
abbrev pub name_in : Value → Option (List ℕ)
name_in (values.Name text) = Some text
name_in (values.NameWithLanguage value) = Some value.name
name_in _ = None

abbrev pub language_in : Value → Option (List ℕ)
language_in (values.NaturalLanguage text) = Some text
language_in _ = None

abbrev pub text_in : Value → Option (List ℕ)
text_in (values.Text text) = Some text
text_in (values.TextWithLanguage value) = Some value.text
text_in _ = None

abbrev pub uri_in : Value → Option (List ℕ)
uri_in (values.Uri text) = Some text
uri_in _ = None

abbrev pub text_of_syntax : Syntax → Value → Option (List ℕ)
text_of_syntax Charset value = charset_in value
text_of_syntax Keyword value = keyword_in value
text_of_syntax MimeMediaType value = media_type_in value
text_of_syntax Name value = name_in value
text_of_syntax NaturalLanguage value = language_in value
text_of_syntax Text value = text_in value
text_of_syntax Uri value = uri_in value
