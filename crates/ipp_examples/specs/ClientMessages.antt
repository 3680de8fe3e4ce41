-- Requests as clients sent them: lp(1), lpstat(1), cancel(1), cupsdisable(8) and ipptool(1) of CUPS 2.4.2.
use Prim.Native.String.{String}
use Rattle.std.specs.Prelude.{ℕ, pos, List, [], ◌∷◌, true, false, map, codes}
use Rattle.ipp_values.specs.declared.message.Message.{Message}
use Rattle.ipp_values.specs.declared.message.Group.{Group}
use Rattle.ipp_values.specs.declared.message.Attribute.{Attribute}
use Rattle.ipp_values.specs.declared.tags.GroupTag.TheVariants.{Operation, Job}
use Rattle.ipp_values.specs.declared.value.Value.{Value}
use Rattle.ipp_values.specs.declared.value.Value.TheVariants.{Boolean, Charset, Enum, Integer, Keyword, MimeMediaType, Name, NaturalLanguage, Uri}

abbrev pub attribute : String → Value → Attribute
attribute name value = record { name = codes name; values = value ∷ [] }

abbrev pub keyword : String → Value
keyword text = Keyword (codes text)

abbrev pub keywords : String → List String → Attribute
keywords name texts = record { name = codes name; values = map keyword texts }

abbrev pub charset : Attribute
charset = attribute "attributes-charset" (Charset (codes "utf-8"))

abbrev pub language : Attribute
language = attribute "attributes-natural-language" (NaturalLanguage (codes "en"))

abbrev pub user : String → Attribute
user name = attribute "requesting-user-name" (Name (codes name))

abbrev pub operation_group : List Attribute → Group
operation_group attributes = record { tag = Operation; attributes = attributes }

abbrev pub job_group : List Attribute → Group
job_group attributes = record { tag = Job; attributes = attributes }

-- A message of this version, with this operation and request-id.
abbrev pub message : ℕ → ℕ → ℕ → ℕ → List Group → Message
message major minor code id groups = record { version = record { major = major; minor = minor }; code = code; request_id = pos id; groups = groups }

abbrev pub lp_creates : Message
lp_creates = message 2 0 0x0005 4
    (operation_group (charset ∷ language ∷ attribute "printer-uri" (Uri (codes "ipp://localhost:8631/printers/q")) ∷ user "root" ∷ attribute "job-name" (Name (codes "A title")) ∷ [])
    ∷ job_group (attribute "copies" (Integer (pos 1)) ∷ attribute "finishings" (Enum (pos 3)) ∷ attribute "job-hold-until" (Keyword (codes "no-hold")) ∷ attribute "media" (Keyword (codes "iso_a4_210x297mm")) ∷ attribute "sides" (Keyword (codes "one-sided")) ∷ [])
    ∷ [])

abbrev pub lp_sends_first : Message
lp_sends_first = message 2 0 0x0006 5
    (operation_group (charset ∷ language ∷ attribute "printer-uri" (Uri (codes "ipp://localhost:8631/printers/q")) ∷ attribute "job-id" (Integer (pos 7)) ∷ user "root" ∷ attribute "document-name" (Name (codes "doc.txt")) ∷ attribute "document-format" (MimeMediaType (codes "application/octet-stream")) ∷ attribute "last-document" (Boolean false) ∷ [])
    ∷ [])

abbrev pub lp_sends_last : Message
lp_sends_last = message 2 0 0x0006 6
    (operation_group (charset ∷ language ∷ attribute "printer-uri" (Uri (codes "ipp://localhost:8631/printers/q")) ∷ attribute "job-id" (Integer (pos 7)) ∷ user "root" ∷ attribute "document-name" (Name (codes "doc.txt")) ∷ attribute "document-format" (MimeMediaType (codes "application/octet-stream")) ∷ attribute "last-document" (Boolean true) ∷ [])
    ∷ [])

abbrev pub lp_looks : Message
lp_looks = message 2 0 0x000b 3
    (operation_group (charset ∷ language ∷ attribute "printer-uri" (Uri (codes "ipp://localhost:8631/printers/q")) ∷ user "root" ∷ keywords "requested-attributes" ("job-template" ∷ "media-col-database" ∷ "printer-description" ∷ []) ∷ [])
    ∷ [])

abbrev pub lp_releases : Message
lp_releases = message 2 0 0x0014 1
    (operation_group (charset ∷ language ∷ attribute "job-uri" (Uri (codes "ipp://localhost/jobs/7")) ∷ user "root" ∷ [])
    ∷ job_group (attribute "job-hold-until" (Keyword (codes "no-hold")) ∷ [])
    ∷ [])

abbrev pub lpstat_default : Message
lpstat_default = message 2 0 0x4001 1
    (operation_group (charset ∷ language ∷ [])
    ∷ [])

abbrev pub lpstat_printers : Message
lpstat_printers = message 2 0 0x4002 4
    (operation_group (charset ∷ language ∷ keywords "requested-attributes" ("printer-name" ∷ "printer-uri-supported" ∷ "device-uri" ∷ []) ∷ user "root" ∷ [])
    ∷ [])

abbrev pub lpstat_classes : Message
lpstat_classes = message 2 0 0x4005 3
    (operation_group (charset ∷ language ∷ keywords "requested-attributes" ("printer-name" ∷ "printer-uri-supported" ∷ "member-names" ∷ []) ∷ user "root" ∷ [])
    ∷ [])

abbrev pub lpstat_waiting : Message
lpstat_waiting = message 2 0 0x000a 7
    (operation_group (charset ∷ language ∷ attribute "printer-uri" (Uri (codes "ipp://localhost/")) ∷ keywords "requested-attributes" ("job-id" ∷ "job-k-octets" ∷ "job-name" ∷ "job-originating-user-name" ∷ "job-printer-state-message" ∷ "job-printer-uri" ∷ "job-state-reasons" ∷ "time-at-creation" ∷ "time-at-completed" ∷ []) ∷ user "root" ∷ attribute "which-jobs" (Keyword (codes "not-completed")) ∷ [])
    ∷ [])

abbrev pub lpstat_ended : Message
lpstat_ended = message 2 0 0x000a 1
    (operation_group (charset ∷ language ∷ attribute "printer-uri" (Uri (codes "ipp://localhost/")) ∷ keywords "requested-attributes" ("job-id" ∷ "job-k-octets" ∷ "job-name" ∷ "job-originating-user-name" ∷ "job-printer-state-message" ∷ "job-printer-uri" ∷ "job-state-reasons" ∷ "time-at-creation" ∷ "time-at-completed" ∷ []) ∷ user "root" ∷ attribute "which-jobs" (Keyword (codes "completed")) ∷ [])
    ∷ [])

abbrev pub cancel_one : Message
cancel_one = message 2 0 0x0008 3
    (operation_group (charset ∷ language ∷ attribute "job-uri" (Uri (codes "ipp://localhost/jobs/7")) ∷ user "root" ∷ [])
    ∷ [])

abbrev pub cancel_all : Message
cancel_all = message 2 0 0x0038 3
    (operation_group (charset ∷ language ∷ attribute "printer-uri" (Uri (codes "ipp://localhost/printers/q")) ∷ attribute "job-id" (Integer (pos 0)) ∷ user "root" ∷ [])
    ∷ [])

abbrev pub cancel_mine : Message
cancel_mine = message 2 0 0x0039 3
    (operation_group (charset ∷ language ∷ attribute "printer-uri" (Uri (codes "ipp://localhost/printers/q")) ∷ attribute "job-id" (Integer (pos 0)) ∷ user "bo" ∷ attribute "my-jobs" (Boolean true) ∷ [])
    ∷ [])

abbrev pub cancel_and_purge : Message
cancel_and_purge = message 2 0 0x0008 3
    (operation_group (charset ∷ language ∷ attribute "job-uri" (Uri (codes "ipp://localhost/jobs/7")) ∷ user "root" ∷ attribute "purge-jobs" (Boolean true) ∷ [])
    ∷ [])

abbrev pub disables : Message
disables = message 2 0 0x0010 1
    (operation_group (charset ∷ language ∷ attribute "printer-uri" (Uri (codes "ipp://localhost/printers/q")) ∷ user "root" ∷ [])
    ∷ [])

abbrev pub enables : Message
enables = message 2 0 0x0011 1
    (operation_group (charset ∷ language ∷ attribute "printer-uri" (Uri (codes "ipp://localhost/printers/q")) ∷ user "root" ∷ [])
    ∷ [])

abbrev pub rejects : Message
rejects = message 2 0 0x4009 1
    (operation_group (charset ∷ language ∷ attribute "printer-uri" (Uri (codes "ipp://localhost/printers/q")) ∷ user "root" ∷ [])
    ∷ [])

abbrev pub accepts : Message
accepts = message 2 0 0x4008 1
    (operation_group (charset ∷ language ∷ attribute "printer-uri" (Uri (codes "ipp://localhost/printers/q")) ∷ user "root" ∷ [])
    ∷ [])

abbrev pub prints : Message
prints = message 1 1 0x0002 82619
    (operation_group (charset ∷ language ∷ attribute "printer-uri" (Uri (codes "ipp://localhost:8631/printers/q")) ∷ user "root" ∷ attribute "job-name" (Name (codes "letter.txt")) ∷ attribute "ipp-attribute-fidelity" (Boolean false) ∷ attribute "document-name" (Name (codes "letter.txt")) ∷ attribute "compression" (Keyword (codes "none")) ∷ attribute "document-format" (MimeMediaType (codes "text/plain")) ∷ [])
    ∷ [])

abbrev pub validates : Message
validates = message 1 1 0x0004 82620
    (operation_group (charset ∷ language ∷ attribute "printer-uri" (Uri (codes "ipp://localhost:8631/printers/q")) ∷ user "root" ∷ attribute "job-name" (Name (codes "letter.txt")) ∷ attribute "ipp-attribute-fidelity" (Boolean false) ∷ attribute "document-name" (Name (codes "letter.txt")) ∷ attribute "compression" (Keyword (codes "none")) ∷ attribute "document-format" (MimeMediaType (codes "text/plain")) ∷ [])
    ∷ [])

abbrev pub identifies : Message
identifies = message 1 1 0x003c 129466
    (operation_group (charset ∷ language ∷ attribute "printer-uri" (Uri (codes "ipp://localhost:8631/printers/q")) ∷ user "root" ∷ attribute "identify-actions" (Keyword (codes "sound")) ∷ [])
    ∷ [])

abbrev pub lists_mine : Message
lists_mine = message 1 1 0x000a 82625
    (operation_group (charset ∷ language ∷ attribute "printer-uri" (Uri (codes "ipp://localhost:8631/printers/q")) ∷ user "root" ∷ attribute "my-jobs" (Boolean true) ∷ [])
    ∷ [])

abbrev pub lists_one : Message
lists_one = message 1 1 0x000a 47403
    (operation_group (charset ∷ language ∷ attribute "printer-uri" (Uri (codes "ipp://localhost:8631/printers/q")) ∷ attribute "limit" (Integer (pos 1)) ∷ user "root" ∷ keywords "requested-attributes" ("job-id" ∷ "job-state" ∷ []) ∷ [])
    ∷ [])

abbrev pub asks_by_uri : Message
asks_by_uri = message 1 1 0x0009 35758
    (operation_group (charset ∷ language ∷ attribute "job-uri" (Uri (codes "ipp://localhost:8631/printers/q")) ∷ [])
    ∷ [])

abbrev pub asks_by_number : Message
asks_by_number = message 1 1 0x0009 33292
    (operation_group (charset ∷ language ∷ attribute "printer-uri" (Uri (codes "ipp://localhost:8631/printers/q")) ∷ attribute "job-id" (Integer (pos 7)) ∷ user "root" ∷ [])
    ∷ [])

abbrev pub closes : Message
closes = message 1 1 0x003b 26853
    (operation_group (charset ∷ language ∷ attribute "printer-uri" (Uri (codes "ipp://localhost:8631/printers/q")) ∷ attribute "job-id" (Integer (pos 7)) ∷ user "root" ∷ [])
    ∷ [])

abbrev pub holds : Message
holds = message 1 1 0x000c 122479
    (operation_group (charset ∷ language ∷ attribute "printer-uri" (Uri (codes "ipp://localhost:8631/printers/q")) ∷ attribute "job-id" (Integer (pos 7)) ∷ user "root" ∷ [])
    ∷ [])

abbrev pub releases : Message
releases = message 1 1 0x000d 110149
    (operation_group (charset ∷ language ∷ attribute "printer-uri" (Uri (codes "ipp://localhost:8631/printers/q")) ∷ attribute "job-id" (Integer (pos 7)) ∷ user "root" ∷ [])
    ∷ [])

abbrev pub purges : Message
purges = message 1 1 0x0012 1782
    (operation_group (charset ∷ language ∷ attribute "printer-uri" (Uri (codes "ipp://localhost:8631/printers/q")) ∷ user "root" ∷ [])
    ∷ [])

abbrev pub opens_printer : Message
opens_printer = message 1 1 0x0022 36854
    (operation_group (charset ∷ language ∷ attribute "printer-uri" (Uri (codes "ipp://localhost:8631/printers/q")) ∷ user "root" ∷ [])
    ∷ [])

abbrev pub closes_printer : Message
closes_printer = message 1 1 0x0023 91791
    (operation_group (charset ∷ language ∷ attribute "printer-uri" (Uri (codes "ipp://localhost:8631/printers/q")) ∷ user "root" ∷ [])
    ∷ [])

abbrev pub prints_uri : Message
prints_uri = message 1 1 0x0003 100833
    (operation_group (charset ∷ language ∷ attribute "printer-uri" (Uri (codes "ipp://localhost:8631/printers/q")) ∷ user "root" ∷ [])
    ∷ [])

abbrev pub with_number_zero : Message
with_number_zero = message 1 1 0x000b 0
    (operation_group (charset ∷ language ∷ attribute "printer-uri" (Uri (codes "ipp://localhost:8631/printers/q")) ∷ [])
    ∷ [])

abbrev pub without_attributes : Message
without_attributes = message 1 1 0x000b 82612
    ([])

abbrev pub without_language : Message
without_language = message 1 1 0x000b 82613
    (operation_group (charset ∷ attribute "printer-uri" (Uri (codes "ipp://localhost:8631/printers/q")) ∷ [])
    ∷ [])

abbrev pub without_charset : Message
without_charset = message 1 1 0x000b 82614
    (operation_group (language ∷ attribute "printer-uri" (Uri (codes "ipp://localhost:8631/printers/q")) ∷ [])
    ∷ [])

abbrev pub in_other_order : Message
in_other_order = message 1 1 0x000b 82615
    (operation_group (language ∷ charset ∷ attribute "printer-uri" (Uri (codes "ipp://localhost:8631/printers/q")) ∷ [])
    ∷ [])

abbrev pub of_version_zero : Message
of_version_zero = message 0 0 0x000b 82617
    (operation_group (charset ∷ language ∷ attribute "printer-uri" (Uri (codes "ipp://localhost:8631/printers/q")) ∷ [])
    ∷ [])

abbrev pub without_target : Message
without_target = message 1 1 0x000b 82618
    (operation_group (charset ∷ language ∷ [])
    ∷ [])
