-- The properties of a printer that lines state, and their defaults.
use Rattle.std.specs.Prelude.{ℕ, Bool, false, List, [], ◌∷◌, ◌++◌, codes, Option, None, Some, cond}
use Rattle.std.specs.List.{find}
use Rattle.ipp_printers.specs.PrinterSections.{Section, Sections, is_named, is_of}
use Rattle.ipp_printers.specs.declared.media.MediaSize.{MediaSize}
use Rattle.ipp_printers.specs.declared.kind.PropertyKind.{PropertyKind}
use Rattle.ipp_printers.specs.declared.property.Property as properties
use Rattle.ipp_printers.specs.declared.property.Property.TheVariants.{Info, Location, MakeAndModel, DeviceId, Media, Color, Duplex, Resolutions, OutputBins, PagesPerMinute, ColorPagesPerMinute}

-- The properties of a queue's section.
abbrev pub section_named : List ℕ → List Section → List properties.Property
section_named name [] = []
section_named name (section ∷ sections) = cond (is_named name section) section.1 (section_named name sections)

-- The properties of a queue's section precede those of all printers.
abbrev pub properties_for : List ℕ → Sections → List properties.Property
properties_for queue sections = section_named queue sections.1 ++ sections.0

-- The first property of this kind.
abbrev pub property_of : PropertyKind → List properties.Property → Option properties.Property
property_of kind list = find (is_of kind) list

-- ## The values of properties

abbrev pub a4 : MediaSize
a4 = record { name = codes "iso_a4_210x297mm"; width = 21000; height = 29700 }

abbrev pub info_of : Option properties.Property → Option (List ℕ)
info_of (Some (Info text)) = Some text
info_of property = None

abbrev pub location_of : Option properties.Property → Option (List ℕ)
location_of (Some (Location text)) = Some text
location_of property = None

abbrev pub make_and_model_of : Option properties.Property → Option (List ℕ)
make_and_model_of (Some (MakeAndModel text)) = Some text
make_and_model_of property = None

abbrev pub device_id_of : Option properties.Property → Option (List ℕ)
device_id_of (Some (DeviceId text)) = Some text
device_id_of property = None

-- Paper of the size A4 without such a property.
abbrev pub media_of : Option properties.Property → List MediaSize
media_of (Some (Media sizes)) = sizes
media_of property = a4 ∷ []

-- No color without such a property.
abbrev pub color_of : Option properties.Property → Bool
color_of (Some (Color flag)) = flag
color_of property = false

-- One side without such a property.
abbrev pub duplex_of : Option properties.Property → Bool
duplex_of (Some (Duplex flag)) = flag
duplex_of property = false

abbrev pub resolutions_of : Option properties.Property → List ℕ
resolutions_of (Some (Resolutions resolutions)) = resolutions
resolutions_of property = []

abbrev pub output_bins_of : Option properties.Property → List (List ℕ)
output_bins_of (Some (OutputBins bins)) = bins
output_bins_of property = []

abbrev pub pages_per_minute_of : Option properties.Property → Option ℕ
pages_per_minute_of (Some (PagesPerMinute rate)) = Some rate
pages_per_minute_of property = None

abbrev pub color_pages_per_minute_of : Option properties.Property → Option ℕ
color_pages_per_minute_of (Some (ColorPagesPerMinute rate)) = Some rate
color_pages_per_minute_of property = None
