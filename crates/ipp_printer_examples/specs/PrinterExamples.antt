-- Examples of printers files, and of the names of media sizes (PWG 5101.1).
use Prim.Native.String.{String}
use Rattle.std.specs.Prelude.{◌≡◌, ℕ, true, false, cond, ◌==◌, List, [], ◌∷◌, map, codes, Option, None, Some}
use Rattle.std.specs.Option.{option_map}
use Rattle.ipp_printers.specs.MediaNames.{media_in, size_of, short_name}
use Rattle.ipp_printers.specs.PrinterLines.{lines_in}
use Rattle.ipp_printers.specs.PrinterSections.{sections_of, fault_at}
use Rattle.ipp_printers.specs.PrinterFacts.{properties_for, property_of, info_of, location_of, media_of, color_of, duplex_of, resolutions_of, output_bins_of, pages_per_minute_of, a4}
use Rattle.ipp_printers.specs.declared.media.MediaSize.{MediaSize}
use Rattle.ipp_printers.specs.declared.property.Property.{Property}
use Rattle.ipp_printers.specs.declared.kind.PropertyKind.TheVariants as kinds
use Rattle.ipp_printers.specs.declared.fault.LineFault.{LineFault}
use Rattle.ipp_printers.specs.declared.fault.LineFault.TheVariants.{UnknownWord, BadQueue, BadValue, QueueTwice, PropertyTwice}

-- A text with `|` for a line feed, `~` for a tab and `$` for a carriage return.
abbrev pub byte : ℕ → ℕ
byte b = cond (b == 124) 10 (cond (b == 126) 9 (cond (b == 36) 13 b))

abbrev pub text : String → List ℕ
text written = map byte (codes written)

-- ## Sizes, in hundredths of a millimetre

abbrev pub SizeRow : Type 0
SizeRow = String × ℕ × ℕ

abbrev pub size_in_row : SizeRow → Option (ℕ × ℕ)
size_in_row row = option_map (λ (m : MediaSize). (m.width, m.height)) (media_in (text row.0))

abbrev pub SizeRows : Type 0
SizeRows =
    map size_in_row (
    ("iso_a4_210x297mm", 21000, 29700)
    ∷ ("na_letter_8.5x11in", 21590, 27940)
    ∷ ("na_number-10_4.125x9.5in", 10477, 24130)
    ∷ ("om_small-photo_100x150mm", 10000, 15000)
    ∷ ("jpn_chou3_120x235.5mm", 12000, 23550)
    ∷ []) ≡ (Some (21000, 29700) ∷ Some (21590, 27940) ∷ Some (10477, 24130) ∷ Some (10000, 15000) ∷ Some (12000, 23550) ∷ [])

abbrev pub NoSizeRows : Type 0
NoSizeRows =
    map (λ (written : String). media_in (text written)) (
    "A4" ∷ "iso_a4_210x297" ∷ "iso_a4_210x297cm" ∷ "iso_a4_210mm" ∷ "a4_210x297mm" ∷ "iso_a4_0x297mm" ∷ "ISO_a4_210x297mm" ∷ "iso_a4_210.12345x297mm" ∷ "iso_a4_210.x297mm"
    ∷ "iso_a4_100000x297mm" ∷ "iso_a4_210x297mmx" ∷ "iso_a4_x297mm" ∷ "" ∷ [])
    ≡ (None ∷ None ∷ None ∷ None ∷ None ∷ None ∷ None ∷ None ∷ None ∷ None ∷ None ∷ None ∷ None ∷ [])

abbrev pub ShortNameRows : Type 0
ShortNameRows = map (λ (written : String). short_name (text written)) ("iso_a4_210x297mm" ∷ "na_letter_8.5x11in" ∷ "a4" ∷ []) ≡ (text "a4" ∷ text "letter" ∷ [] ∷ [])

-- ## Files

abbrev pub printer : String → String → List Property
printer queue file = properties_for (text queue) (sections_of (lines_in (text file)))

abbrev pub sample : String
sample = "# all|location Hall~# floor 2|color no|~|queue lab|  info Lab #1| color~yes |media na_letter_8.5x11in iso_a4_210x297mm|queue hall|resolutions 600 300|output-bins face-down|pages-per-minute 30"

abbrev pub FileRows : Type 0
FileRows =
    (info_of (property_of kinds.Info (printer "lab" sample)) ≡ Some (text "Lab"))
    × (location_of (property_of kinds.Location (printer "lab" sample)) ≡ Some (text "Hall"))
    × (map (λ (q : String). color_of (property_of kinds.Color (printer q sample))) ("lab" ∷ "hall" ∷ "attic" ∷ []) ≡ true ∷ false ∷ false ∷ [])
    × (map (λ (m : MediaSize). m.width) (media_of (property_of kinds.Media (printer "lab" sample))) ≡ 21590 ∷ 21000 ∷ [])
    × (media_of (property_of kinds.Media (printer "hall" sample)) ≡ a4 ∷ [])
    × (resolutions_of (property_of kinds.Resolutions (printer "hall" sample)) ≡ 600 ∷ 300 ∷ [])
    × (output_bins_of (property_of kinds.OutputBins (printer "hall" sample)) ≡ text "face-down" ∷ [])
    × (pages_per_minute_of (property_of kinds.PagesPerMinute (printer "hall" sample)) ≡ Some 30)

-- ## Faults

-- The faults of the first three lines.
abbrev pub faults_in : String → List (Option LineFault)
faults_in file = map (fault_at (lines_in (text file))) (0 ∷ 1 ∷ 2 ∷ [])

abbrev pub FaultRows : Type 0
FaultRows =
    map faults_in (
    "" ∷ "colour yes" ∷ "|color maybe" ∷ "color yes|color no" ∷ "color yes|queue a|color no" ∷ "queue a|queue b|queue a" ∷ "queue" ∷ "queue a b" ∷ "info" ∷ "color yes$" ∷ "media A4|duplex 1|resolutions 0" ∷ [])
    ≡ ((None ∷ None ∷ None ∷ [])
    ∷ (Some UnknownWord ∷ None ∷ None ∷ [])
    ∷ (None ∷ Some (BadValue kinds.Color) ∷ None ∷ [])
    ∷ (None ∷ Some PropertyTwice ∷ None ∷ [])
    ∷ (None ∷ None ∷ None ∷ [])
    ∷ (None ∷ None ∷ Some QueueTwice ∷ [])
    ∷ (Some BadQueue ∷ None ∷ None ∷ [])
    ∷ (Some BadQueue ∷ None ∷ None ∷ [])
    ∷ (Some (BadValue kinds.Info) ∷ None ∷ None ∷ [])
    ∷ (Some (BadValue kinds.Color) ∷ None ∷ None ∷ [])
    ∷ (Some (BadValue kinds.Media) ∷ Some (BadValue kinds.Duplex) ∷ Some (BadValue kinds.Resolutions) ∷ [])
    ∷ [])
