-- The octets of messages as they were sent between the commands of CUPS 2.4.2 and its cupsd(8).
use Prim.Native.String.{String}
use Rattle.std.specs.Prelude.{◌≡◌, ℕ, pos, List, [], ◌∷◌, ◌++◌, codes}
use Rattle.ipp_values.specs.declared.message.Message.{Message}
use Rattle.ipp_values.specs.declared.message.Attribute.{Attribute}
use Rattle.ipp_values.specs.declared.value.Value.{Value}
use Rattle.ipp_values.specs.declared.value.Value.TheVariants.{BeginCollection, EndCollection, Enum, Integer, MemberName, MimeMediaType, Text, Uri}
use Rattle.ipp_codec.specs.MessageSpelling.{message_spelling}
use Rattle.ipp_examples.specs.ClientMessages.{attribute, charset, job_group, language, lpstat_default, message, operation_group, user}

-- The charset and the natural language, as each message begins.
abbrev pub begin_octets : List ℕ
begin_octets =
    1 ∷ 0x47 ∷ 0 ∷ 18 ∷ codes "attributes-charset" ++ 0 ∷ 5 ∷ codes "utf-8"
    ++ 0x48 ∷ 0 ∷ 27 ∷ codes "attributes-natural-language" ++ 0 ∷ 2 ∷ codes "en"

-- lpstat(1) asks for the default printer.
abbrev pub default_octets : List ℕ
default_octets = 2 ∷ 0 ∷ 0x40 ∷ 1 ∷ 0 ∷ 0 ∷ 0 ∷ 1 ∷ begin_octets ++ 3 ∷ []

-- cupsd(8) answers that there is none.
abbrev pub no_default : Message
no_default = message 2 0 0x0406 1 (operation_group (charset ∷ language ∷ attribute "status-message" (Text (codes "No default printer.")) ∷ []) ∷ [])

abbrev pub no_default_octets : List ℕ
no_default_octets =
    2 ∷ 0 ∷ 4 ∷ 6 ∷ 0 ∷ 0 ∷ 0 ∷ 1 ∷ begin_octets
    ++ 0x41 ∷ 0 ∷ 14 ∷ codes "status-message" ++ 0 ∷ 19 ∷ codes "No default printer." ++ 3 ∷ []

-- cancel(1) cancels a job.
abbrev pub cancels : Message
cancels = message 2 0 0x0008 3 (operation_group (charset ∷ language ∷ attribute "job-uri" (Uri (codes "ipp://localhost/jobs/2")) ∷ user "root" ∷ []) ∷ [])

abbrev pub cancels_octets : List ℕ
cancels_octets =
    2 ∷ 0 ∷ 0 ∷ 8 ∷ 0 ∷ 0 ∷ 0 ∷ 3 ∷ begin_octets
    ++ 0x45 ∷ 0 ∷ 7 ∷ codes "job-uri" ++ 0 ∷ 22 ∷ codes "ipp://localhost/jobs/2"
    ++ 0x42 ∷ 0 ∷ 20 ∷ codes "requesting-user-name" ++ 0 ∷ 4 ∷ codes "root" ++ 3 ∷ []

-- ipptool(1) prints on a size of paper without borders.
abbrev pub margin : String → List Value
margin name = MemberName (codes name) ∷ Integer (pos 0) ∷ []

abbrev pub borderless : Attribute
borderless = record {
  name = codes "media-col";
  values =
      BeginCollection
      ∷ MemberName (codes "media-size") ∷ BeginCollection
      ∷ MemberName (codes "x-dimension") ∷ Integer (pos 10160) ∷ MemberName (codes "y-dimension") ∷ Integer (pos 15240)
      ∷ EndCollection
      ∷ margin "media-left-margin" ++ margin "media-right-margin" ++ margin "media-top-margin" ++ margin "media-bottom-margin"
      ++ EndCollection ∷ [];
}

abbrev pub prints : Message
prints = message 1 1 0x0002 24524
    (operation_group (charset ∷ language ∷ attribute "printer-uri" (Uri (codes "ipp://127.0.0.1:8732/printers/q")) ∷ user "root" ∷ attribute "document-format" (MimeMediaType (codes "application/octet-stream")) ∷ [])
    ∷ job_group (borderless ∷ attribute "print-quality" (Enum (pos 5)) ∷ [])
    ∷ [])

abbrev pub margin_octets : ℕ → String → List ℕ
margin_octets length_octet name = 0x4a ∷ 0 ∷ 0 ∷ 0 ∷ length_octet ∷ codes name ++ 0x21 ∷ 0 ∷ 0 ∷ 0 ∷ 4 ∷ 0 ∷ 0 ∷ 0 ∷ 0 ∷ []

abbrev pub prints_octets : List ℕ
prints_octets =
    1 ∷ 1 ∷ 0 ∷ 2 ∷ 0 ∷ 0 ∷ 0x5f ∷ 0xcc ∷ begin_octets
    ++ 0x45 ∷ 0 ∷ 11 ∷ codes "printer-uri" ++ 0 ∷ 31 ∷ codes "ipp://127.0.0.1:8732/printers/q"
    ++ 0x42 ∷ 0 ∷ 20 ∷ codes "requesting-user-name" ++ 0 ∷ 4 ∷ codes "root"
    ++ 0x49 ∷ 0 ∷ 15 ∷ codes "document-format" ++ 0 ∷ 24 ∷ codes "application/octet-stream"
    ++ 2 ∷ 0x34 ∷ 0 ∷ 9 ∷ codes "media-col" ++ 0 ∷ 0
    ∷ 0x4a ∷ 0 ∷ 0 ∷ 0 ∷ 10 ∷ codes "media-size" ++ 0x34 ∷ 0 ∷ 0 ∷ 0 ∷ 0
    ∷ 0x4a ∷ 0 ∷ 0 ∷ 0 ∷ 11 ∷ codes "x-dimension" ++ 0x21 ∷ 0 ∷ 0 ∷ 0 ∷ 4 ∷ 0 ∷ 0 ∷ 0x27 ∷ 0xb0
    ∷ 0x4a ∷ 0 ∷ 0 ∷ 0 ∷ 11 ∷ codes "y-dimension" ++ 0x21 ∷ 0 ∷ 0 ∷ 0 ∷ 4 ∷ 0 ∷ 0 ∷ 0x3b ∷ 0x88
    ∷ 0x37 ∷ 0 ∷ 0 ∷ 0 ∷ 0
    ∷ margin_octets 17 "media-left-margin" ++ margin_octets 18 "media-right-margin" ++ margin_octets 16 "media-top-margin"
    ++ margin_octets 19 "media-bottom-margin" ++ 0x37 ∷ 0 ∷ 0 ∷ 0 ∷ 0
    ∷ 0x23 ∷ 0 ∷ 13 ∷ codes "print-quality" ++ 0 ∷ 4 ∷ 0 ∷ 0 ∷ 0 ∷ 5 ∷ 3 ∷ []

-- The octets are the spellings of these messages.
pub record ExchangeRows : Type 0 where
  pub default : message_spelling lpstat_default ≡ default_octets
  pub no_default : message_spelling no_default ≡ no_default_octets
  pub cancels : message_spelling cancels ≡ cancels_octets
  pub prints : message_spelling prints ≡ prints_octets
