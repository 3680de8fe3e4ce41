-- What the file of printers says of a printer, and its sizes of paper as values.
use Rattle.std.specs.Prelude.{ℕ, Bool, true, cond, List, [], ◌∷◌, ◌++◌, codes, Option}
use Rattle.ipp_printers.specs.PrinterFacts as printers
use Rattle.ipp_printers.specs.declared.kind.PropertyKind.TheVariants as kinds
use Rattle.ipp_printers.specs.declared.media.MediaSize.{MediaSize}
use Rattle.ipp_printers.specs.declared.property.Property.{Property}
use Rattle.ipp_values.specs.TextLimits.{is_text}
use Rattle.ipp_values.specs.declared.value.Value.{Value}
use Rattle.ipp_values.specs.declared.value.Value.TheVariants.{NoValue, BeginCollection, MemberName, EndCollection}
use Rattle.ipp_answers.specs.AnswerValues.{integer_of, keyword_value}

-- ## What the file says

abbrev pub has_color : List Property → Bool
has_color d = printers.color_of (printers.property_of kinds.Color d)

abbrev pub has_duplex : List Property → Bool
has_duplex d = printers.duplex_of (printers.property_of kinds.Duplex d)

abbrev pub info : List Property → Option (List ℕ)
info d = printers.info_of (printers.property_of kinds.Info d)

abbrev pub location : List Property → Option (List ℕ)
location d = printers.location_of (printers.property_of kinds.Location d)

abbrev pub make_and_model : List Property → Option (List ℕ)
make_and_model d = printers.make_and_model_of (printers.property_of kinds.MakeAndModel d)

abbrev pub device_id : List Property → Option (List ℕ)
device_id d = printers.device_id_of (printers.property_of kinds.DeviceId d)

-- Its sizes of paper, the default first.
abbrev pub media : List Property → List MediaSize
media d = printers.media_of (printers.property_of kinds.Media d)

abbrev pub resolutions : List Property → List ℕ
resolutions d = printers.resolutions_of (printers.property_of kinds.Resolutions d)

abbrev pub output_bins : List Property → List (List ℕ)
output_bins d = printers.output_bins_of (printers.property_of kinds.OutputBins d)

abbrev pub pages_per_minute : List Property → Option ℕ
pages_per_minute d = printers.pages_per_minute_of (printers.property_of kinds.PagesPerMinute d)

abbrev pub color_pages_per_minute : List Property → Option ℕ
color_pages_per_minute d = printers.color_pages_per_minute_of (printers.property_of kinds.ColorPagesPerMinute d)

-- ## Sizes of paper

abbrev pub media_name : MediaSize → Value
media_name m = keyword_value m.name

-- The name of a member of a collection.
abbrev pub member_value : List ℕ → Value
member_value text = cond (is_text 1 255 127 text) (MemberName text) NoValue

abbrev pub dimension : List ℕ → ℕ → List Value
dimension name length = member_value name ∷ integer_of length ∷ []

-- The width and the height, in hundredths of a millimetre.
abbrev pub dimensions : MediaSize → List Value
dimensions m = dimension (codes "x-dimension") m.width ++ dimension (codes "y-dimension") m.height

-- A value of media-size-supported: a collection of the width and the height (PWG 5100.3).
abbrev pub media_size : MediaSize → List Value
media_size m = BeginCollection ∷ dimensions m ++ EndCollection ∷ []

-- The members of media-col before and after its size.
abbrev pub size_begin : List Value
size_begin = BeginCollection ∷ member_value (codes "media-size") ∷ []

abbrev pub size_name : MediaSize → List Value
size_name m = member_value (codes "media-size-name") ∷ media_name m ∷ []

abbrev pub size_end : MediaSize → List Value
size_end m = size_name m ++ EndCollection ∷ []

-- A value of media-col: a collection of a size and its name (PWG 5100.3 and 5100.7). Margins are not known.
abbrev pub media_col : MediaSize → List Value
media_col m = size_begin ++ media_size m ++ size_end m
