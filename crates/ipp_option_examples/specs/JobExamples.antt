-- Examples of job attributes, as `lp` of CUPS 2.4 sends them.
use Prim.Native.String.{String}
use Rattle.std.specs.Prelude.{◌≡◌, ℕ, pos, negsuc, Bool, true, false, List, [], ◌∷◌, map, None, Some}
use denote.Ref.{Bor}
use Rattle.filter_args.specs.Printing.{printed}
use Rattle.ipp_printers.specs.PrinterLines.{lines_in}
use Rattle.ipp_printers.specs.PrinterSections.{sections_of}
use Rattle.ipp_printers.specs.PrinterFacts.{properties_for}
use Rattle.ipp_printers.specs.declared.property.Property.{Property}
use Rattle.ipp_values.specs.declared.message.Attribute.{Attribute}
use Rattle.ipp_values.specs.declared.value.Value.{Value}
use Rattle.ipp_values.specs.declared.value.Value.TheVariants.{Integer, Boolean, Enum, Keyword, Name, RangeOfInteger, Resolution, BeginCollection, MemberName, EndCollection, DateTime}
use Rattle.ipp_options.specs.HoldValues.{hold_in, hold_time_in}
use Rattle.requested_attributes.specs.AttributeGroups.{answered}
use Rattle.requested_attributes.specs.declared.groups.Asked.{Asked}
use Rattle.requested_attributes.specs.declared.groups.Asked.TheVariants.{All, JobIds, These}
use Rattle.ipp_options.specs.JobSettings.{note, settings_of, is_refused}
use Rattle.ipp_options.specs.StatedAttributes.{stated_rows}
use Rattle.ipp_options.specs.declared.hold.Hold.TheVariants.{Free, Indefinite, Until}
use Rattle.ipp_options.specs.declared.settings.Settings.{Settings}
use Rattle.ipp_options.specs.declared.settings.Unsupported.{Unsupported}
use Rattle.ipp_printer_examples.specs.PrinterExamples.{text}

abbrev pub attribute : String → List Value → Bor Attribute
attribute name values = record { ref_ptr = (0, 0); now = record { name = text name; values = values } }

abbrev pub keyword : String → String → Bor Attribute
keyword name word = attribute name (Keyword (text word) ∷ [])

abbrev pub integer : String → ℕ → Bor Attribute
integer name n = attribute name (Integer (pos n) ∷ [])

abbrev pub enum : String → ℕ → Bor Attribute
enum name n = attribute name (Enum (pos n) ∷ [])

abbrev pub flag : String → Bor Attribute
flag name = attribute name (Boolean true ∷ [])

abbrev pub name : String → String → Bor Attribute
name of word = attribute of (Name (text word) ∷ [])

-- A printer with duplex and 600 dots per inch.
abbrev pub printer : List Property
printer = properties_for (text "q") (sections_of (lines_in (text "duplex yes|resolutions 600|output-bins face-down")))

-- 2026-11-29 12:00:00 in UTC.
abbrev pub noon : ℕ
noon = 1795953600

abbrev pub settings : List (Bor Attribute) → Settings
settings attributes = settings_of printer false noon attributes

abbrev pub names_of : Settings → List (List ℕ)
names_of s = map (λ (u : Unsupported). u.attribute.now.name) s.unsupported

-- `lp -d q FILE`.
abbrev pub plain : List (Bor Attribute)
plain =
    integer "copies" 1 ∷ enum "finishings" 3 ∷ keyword "job-hold-until" "no-hold" ∷ integer "job-priority" 50 ∷ attribute "job-sheets" (Name (text "none") ∷ Name (text "none") ∷ [])
    ∷ keyword "media" "iso_a4_210x297mm" ∷ integer "number-up" 1 ∷ keyword "output-bin" "face-down" ∷ keyword "print-color-mode" "monochrome" ∷ keyword "sides" "one-sided" ∷ []

abbrev pub PlainRows : Type 0
PlainRows =
    (printed (settings plain).options ≡ text "finishings=3 media=iso_a4_210x297mm number-up=1 output-bin=face-down print-color-mode=monochrome sides=one-sided")
    × (names_of (settings plain) ≡ []) × ((settings plain).hold ≡ Free) × (is_refused true (settings plain) ≡ false)

-- `lp -d q -n 2 -q 80 -H 23:59 -P 1-3,7 -o media=A4 -o sides=two-sided-long-edge ..`.
abbrev pub many : List (Bor Attribute)
many =
    flag "b'c" ∷ flag "collate" ∷ integer "copies" 2 ∷ name "Duplex" "DuplexNoTumble" ∷ enum "finishings" 3 ∷ flag "fit-to-page" ∷ keyword "job-hold-until" "23:59" ∷ integer "job-priority" 80
    ∷ attribute "job-sheets" (Name (text "none") ∷ Name (text "none") ∷ []) ∷ keyword "media" "A4" ∷ name "note" "a" ∷ integer "number-up" 2
    ∷ attribute "page-ranges" (RangeOfInteger (record { lower = pos 1; upper = pos 3 }) ∷ RangeOfInteger (record { lower = pos 7; upper = pos 7 }) ∷ [])
    ∷ name "page-set" "odd" ∷ enum "print-quality" 5 ∷ attribute "printer-resolution" (Resolution (record { cross_feed = pos 600; feed = pos 600; units = 3 }) ∷ [])
    ∷ keyword "sides" "two-sided-long-edge" ∷ []

abbrev pub ManyRows : Type 0
ManyRows =
    (printed (settings many).options
    ≡ text "collate=true Duplex=DuplexNoTumble finishings=3 fit-to-page=true media=A4 note=a number-up=2 page-ranges=1-3,7 page-set=odd print-quality=5 printer-resolution=600x600dpi sides=two-sided-long-edge")
    × ((settings many).copies ≡ 2) × ((settings many).priority ≡ 80) × ((settings many).hold ≡ Until 1795996740) × (names_of (settings many) ≡ text "b'c" ∷ []) × (is_refused true (settings many) ≡ true)

-- A value that ends an option and begins another.
abbrev pub InjectionRows : Type 0
InjectionRows =
    (printed (settings (name "note" "A4 job-hold-until=no-hold" ∷ name "x" "{a=b}" ∷ name "y" "a'b\"c\\d" ∷ [])).options ≡ text "note=A4\\ job-hold-until=no-hold x=\\{a=b} y=a\\'b\\\"c\\\\d")
    × (names_of (settings (keyword "media" "A4 job-hold-until=no-hold" ∷ [])) ≡ text "media" ∷ [])
    × (names_of (settings (name "job-foo" "a" ∷ name "submission" "ipp-t-1" ∷ name "a b" "c" ∷ [])) ≡ text "job-foo" ∷ text "submission" ∷ text "a b" ∷ [])

abbrev pub bad : List (Bor Attribute)
bad =
    integer "copies" 0 ∷ integer "copies" 10000 ∷ attribute "copies" (Integer (negsuc 0) ∷ []) ∷ integer "job-priority" 101 ∷ keyword "sides" "both" ∷ keyword "print-color-mode" "color" ∷ enum "finishings" 4
    ∷ attribute "page-ranges" (RangeOfInteger (record { lower = pos 3; upper = pos 2 }) ∷ []) ∷ integer "number-up" 3 ∷ enum "number-up" 2 ∷ keyword "media" "na_letter_8.5x11in" ∷ []

abbrev pub BadRows : Type 0
BadRows =
    ((settings bad).options ≡ []) × ((settings bad).copies ≡ 1) × ((settings bad).priority ≡ 50) × ((settings bad).unsupported ≡ map (λ (a : Bor Attribute). note a true) bad)
    × (is_refused false (settings bad) ≡ false) × (is_refused true (settings bad) ≡ true)

-- A hold that is not understood, two holds, banners, and holds of other kinds.
abbrev pub KeptRows : Type 0
KeptRows =
    map (λ (attributes : List (Bor Attribute)). is_refused false (settings attributes)) (
    (keyword "job-hold-until" "evening" ∷ [])
    ∷ (keyword "job-hold-until" "24:00" ∷ [])
    ∷ (keyword "job-hold-until" "indefinite" ∷ keyword "job-hold-until" "23:59" ∷ [])
    ∷ (keyword "job-hold-until" "indefinite" ∷ keyword "job-hold-until" "no-hold" ∷ [])
    ∷ (name "job-sheets" "standard" ∷ [])
    ∷ (attribute "job-sheets" (Name (text "none") ∷ Name (text "standard") ∷ []) ∷ [])
    ∷ (attribute "job-sheets-col" (BeginCollection ∷ MemberName (text "job-sheets") ∷ Keyword (text "standard") ∷ EndCollection ∷ []) ∷ [])
    ∷ (keyword "job-delay-output-until" "indefinite" ∷ [])
    ∷ (keyword "job-release-action" "owner-authorized" ∷ [])
    ∷ (keyword "job-release-action" "none" ∷ [])
    ∷ []) ≡ (true ∷ true ∷ true ∷ false ∷ true ∷ true ∷ true ∷ true ∷ true ∷ false ∷ [])

-- HH:MM and HH:MM:SS in UTC: later today, now, and tomorrow.
abbrev pub HoldRows : Type 0
HoldRows =
    map (λ (word : String). hold_in noon (Keyword (text word) ∷ [])) ("no-hold" ∷ "indefinite" ∷ "23:59" ∷ "12:00" ∷ "11:59:59" ∷ "9:05" ∷ "12:60" ∷ "12" ∷ "12:00:00:00" ∷ [])
    ≡ (Some Free ∷ Some Indefinite ∷ Some (Until 1795996740) ∷ Some (Until 1795953600) ∷ Some (Until 1796039999) ∷ Some (Until 1796029500) ∷ None ∷ None ∷ None ∷ [])

abbrev pub date : ℕ → ℕ → ℕ → ℕ → ℕ → ℕ → ℕ → ℕ → ℕ → List Value
date year month day hour minute second direction hours minutes =
    DateTime (record { year = year; month = month; day = day; hour = hour; minute = minute; second = second; deciseconds = 0; utc_direction = direction; utc_hours = hours; utc_minutes = minutes }) ∷ []

-- By date(1): `date -d '2024-02-29 23:30:15+0130' +%s` and so on.
abbrev pub DateRows : Type 0
DateRows =
    map hold_time_in (
    date 1970 1 1 0 0 0 43 0 0 ∷ date 2024 2 29 23 30 15 43 1 30 ∷ date 2026 11 29 12 0 0 45 5 0 ∷ date 2000 12 31 23 59 59 43 0 0 ∷ date 2100 3 1 0 0 0 43 0 0 ∷ date 1969 12 31 0 0 0 43 0 0
    ∷ date 2026 2 29 0 0 0 43 0 0 ∷ date 2026 13 1 0 0 0 43 0 0 ∷ date 2026 1 1 24 0 0 43 0 0 ∷ date 2026 1 1 0 0 0 0 0 0 ∷ [])
    ≡ (Some (Until 0) ∷ Some (Until 1709244015) ∷ Some (Until 1795971600) ∷ Some (Until 978307199) ∷ Some (Until 4107542400) ∷ Some (Until 0) ∷ None ∷ None ∷ None ∷ None ∷ [])

-- media-col={media-size={x-dimension y-dimension}} and a further member.
abbrev pub paper : ℕ → ℕ → String → Bor Attribute
paper width height type =
    attribute "media-col" (BeginCollection ∷ MemberName (text "media-size") ∷ BeginCollection ∷ MemberName (text "x-dimension") ∷ Integer (pos width) ∷ MemberName (text "y-dimension") ∷ Integer (pos height) ∷ EndCollection
    ∷ MemberName (text "media-type") ∷ Keyword (text type) ∷ EndCollection ∷ [])

-- The dimensions of another member precede those of the size.
abbrev pub tray : Bor Attribute
tray =
    attribute "media-col" (BeginCollection ∷ MemberName (text "media-tray") ∷ BeginCollection ∷ MemberName (text "x-dimension") ∷ Integer (pos 14800) ∷ MemberName (text "y-dimension") ∷ Integer (pos 21000) ∷ EndCollection
    ∷ MemberName (text "media-size") ∷ BeginCollection ∷ MemberName (text "x-dimension") ∷ Integer (pos 21000) ∷ MemberName (text "y-dimension") ∷ Integer (pos 29700) ∷ EndCollection ∷ EndCollection ∷ [])

-- The options, and whether the request is refused with fidelity.
abbrev pub paper_of : Bor Attribute → List ℕ × Bool
paper_of a = (printed (settings (a ∷ [])).options, is_refused true (settings (a ∷ [])))

abbrev pub MediaRows : Type 0
MediaRows =
    map paper_of (
    paper 21000 29700 "stationery" ∷ paper 20950 29750 "stationery" ∷ paper 20949 29700 "stationery" ∷ paper 21000 29700 "labels" ∷ tray ∷ keyword "media" "a4" ∷ keyword "media" "iso_a4_210x297mm" ∷ [])
    ≡ ((text "media=iso_a4_210x297mm", false) ∷ (text "media=iso_a4_210x297mm", false) ∷ ([], true) ∷ (text "media=iso_a4_210x297mm", true) ∷ (text "media=iso_a4_210x297mm", true) ∷ (text "media=a4", false) ∷ (text "media=iso_a4_210x297mm", false) ∷ [])

-- ## Back from the options

abbrev pub stated : Asked → List (Bor Attribute) → List Attribute
stated asked attributes = answered asked (stated_rows (settings attributes).options)

abbrev pub values_now : List (Bor Attribute) → List Attribute
values_now attributes = map (λ (a : Bor Attribute). a.now) attributes

abbrev pub ranges : List (ℕ × ℕ) → Bor Attribute
ranges list = attribute "page-ranges" (map (λ (p : ℕ × ℕ). RangeOfInteger (record { lower = pos p.0; upper = pos p.1 })) list)

abbrev pub dots : ℕ → ℕ → Bor Attribute
dots cross feed = attribute "printer-resolution" (Resolution (record { cross_feed = pos cross; feed = pos feed; units = 3 }) ∷ [])

abbrev pub these : List String → Asked
these words = These (record { ref_ptr = (0, 0); now = map (λ (word : String). Keyword (text word)) words })

-- The attributes of `plain` and `many` that have a rule are returned as they came.
abbrev pub StatedRows : Type 0
StatedRows =
    (stated All plain
    ≡ values_now (enum "finishings" 3 ∷ keyword "media" "iso_a4_210x297mm" ∷ integer "number-up" 1 ∷ keyword "output-bin" "face-down" ∷ keyword "print-color-mode" "monochrome" ∷ keyword "sides" "one-sided" ∷ []))
    × (stated All many
    ≡ values_now
    (enum "finishings" 3 ∷ keyword "media" "A4" ∷ integer "number-up" 2 ∷ ranges ((1, 3) ∷ (7, 7) ∷ []) ∷ enum "print-quality" 5 ∷ dots 600 600 ∷ keyword "sides" "two-sided-long-edge" ∷ []))
    × (stated (these ("sides" ∷ "media" ∷ "copies" ∷ [])) many ≡ values_now (keyword "media" "A4" ∷ keyword "sides" "two-sided-long-edge" ∷ []))
    × (stated (these ("job-description" ∷ [])) many ≡ []) × (stated JobIds many ≡ [])

abbrev pub option : String → String → List ℕ × List ℕ
option name value = (text name, text value)

-- Options that did not come from attributes, such as those of spool(1).
abbrev pub given : List (List ℕ × List ℕ) → List Attribute
given options = answered All (stated_rows options)

abbrev pub GivenRows : Type 0
GivenRows =
    (given (option "sides" "two sided" ∷ option "finishings" "4" ∷ option "orientation-requested" "03" ∷ option "copies" "2" ∷ option "printer-resolution" "600x300dpi" ∷ option "page-ranges" "2,5-5" ∷ [])
    ≡ values_now (enum "finishings" 4 ∷ enum "orientation-requested" 3 ∷ ranges ((2, 2) ∷ (5, 5) ∷ []) ∷ dots 600 300 ∷ keyword "sides" "two sided" ∷ []))
    × (map (λ (value : String). given (option "page-ranges" value ∷ [])) ("" ∷ "0-2" ∷ "3-2" ∷ "1-" ∷ "1,,2" ∷ "1,x" ∷ "1-2-3" ∷ []) ≡ ([] ∷ [] ∷ [] ∷ [] ∷ [] ∷ [] ∷ [] ∷ []))
    × (map (λ (value : String). given (option "printer-resolution" value ∷ [])) ("600dpi" ∷ "600" ∷ "dpi" ∷ "600x" ∷ "600x600dpc" ∷ []) ≡ (values_now (dots 600 600 ∷ []) ∷ [] ∷ [] ∷ [] ∷ [] ∷ []))
    × (map (λ (value : String). given (option "number-up" value ∷ [])) ("16" ∷ "2147483647" ∷ "2147483648" ∷ "-2" ∷ "" ∷ []) ≡ (values_now (integer "number-up" 16 ∷ []) ∷ values_now (integer "number-up" 2147483647 ∷ []) ∷ [] ∷ [] ∷ [] ∷ []))
    × (given (option "media" "" ∷ []) ≡ [])
