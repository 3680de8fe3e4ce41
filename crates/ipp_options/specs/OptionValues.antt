-- The values of options (filter(7)), as CUPS's scheduler writes those of attributes.
use Rattle.std.specs.Prelude.{ℕ, pos, negsuc, Bool, true, false, ◌||◌, ◌&&◌, not, cond, nat_le, nat_lt, nat_eq, ◌==◌, List, [], ◌∷◌, ◌++◌, length, codes, Option, None, Some, ℤ}
use Rattle.std.specs.List.{list_all, list_any, starts_with}
use Rattle.std.specs.Fmt.{decimal, signed_decimal}
use Rattle.std.specs.Option.{option_map, option_and_then}
use Rattle.filter_args.specs.Pairs.{is_option_name}
use Rattle.ipp_printers.specs.PrinterFacts as facts
use Rattle.ipp_printers.specs.PrinterFacts.{property_of}
use Rattle.ipp_printers.specs.declared.property.Property.{Property}
use Rattle.ipp_printers.specs.declared.kind.PropertyKind.TheVariants as kinds
use Rattle.ipp_values.specs.declared.value.Value.{Value}
use Rattle.ipp_values.specs.declared.value.Value.TheVariants as values
use Rattle.ipp_values.specs.declared.value.RangeOfInteger.{RangeOfInteger}
use Rattle.ipp_values.specs.declared.value.Resolution.{Resolution}
use Rattle.ipp_options.specs.AttributeWords.{same, only, word_in, integer_in, enum_in, enum_of, natural_of}
use Rattle.ipp_options.specs.TemplateChoices.{is_side, is_color_mode, is_scaling, is_handling, is_bin, number_up, orientation, quality, is_finishing}
use Rattle.ipp_options.specs.PaperValues.{is_media}
use Rattle.ipp_options.specs.declared.choice.Choice.{Choice}
use Rattle.ipp_options.specs.declared.choice.Choice.TheVariants.{Media, Sides, NumberUp, Orientation, PageRanges, Quality, ColorMode, Scaling, Resolution as ResolutionChoice, OutputBin, Finishings, Handling}

-- The name of the attribute, and of the option that it becomes.
abbrev pub name_of : Choice → List ℕ
name_of Media = codes "media"
name_of Sides = codes "sides"
name_of NumberUp = codes "number-up"
name_of Orientation = codes "orientation-requested"
name_of PageRanges = codes "page-ranges"
name_of Quality = codes "print-quality"
name_of ColorMode = codes "print-color-mode"
name_of Scaling = codes "print-scaling"
name_of ResolutionChoice = codes "printer-resolution"
name_of OutputBin = codes "output-bin"
name_of Finishings = codes "finishings"
name_of Handling = codes "multiple-document-handling"

abbrev pub choice_named : List ℕ → Option Choice
choice_named name =
    cond (same name (name_of Media)) (Some Media)
    (cond (same name (name_of Sides)) (Some Sides)
    (cond (same name (name_of NumberUp)) (Some NumberUp)
    (cond (same name (name_of Orientation)) (Some Orientation)
    (cond (same name (name_of PageRanges)) (Some PageRanges)
    (cond (same name (name_of Quality)) (Some Quality)
    (cond (same name (name_of ColorMode)) (Some ColorMode)
    (cond (same name (name_of Scaling)) (Some Scaling)
    (cond (same name (name_of ResolutionChoice)) (Some ResolutionChoice)
    (cond (same name (name_of OutputBin)) (Some OutputBin)
    (cond (same name (name_of Finishings)) (Some Finishings)
    (cond (same name (name_of Handling)) (Some Handling)
    None)))))))))))

-- ## Words

-- The printer supports the word as a value of the attribute.
abbrev pub is_choice : List Property → Choice → List ℕ → Bool
is_choice printer Media word = is_media (facts.media_of (property_of kinds.Media printer)) word
is_choice printer Sides word = is_side (facts.duplex_of (property_of kinds.Duplex printer)) word
is_choice printer ColorMode word = is_color_mode (facts.color_of (property_of kinds.Color printer)) word
is_choice printer Scaling word = is_scaling word
is_choice printer OutputBin word = is_bin (facts.output_bins_of (property_of kinds.OutputBins printer)) word
is_choice printer Handling word = is_handling word
is_choice printer choice word = false

abbrev pub chosen : List Property → Choice → List ℕ → Option (List ℕ)
chosen printer choice word = cond (is_choice printer choice word) (Some word) None

-- ## Finishings

abbrev pub is_finishing_value : Option ℕ → Bool
is_finishing_value None = false
is_finishing_value (Some n) = is_finishing n

abbrev pub is_some_list : {A : Type 0} → List A → Bool
is_some_list list = not (length list == 0)

abbrev pub is_no_finishing : Value → Bool
is_no_finishing value = is_finishing_value (enum_of value)

-- One or more values, each of them none.
abbrev pub finishings_of : List Value → Option (List ℕ)
finishings_of list = cond (is_some_list list && list_all is_no_finishing list) (Some (codes "3")) None

-- ## Ranges of pages

-- A range after the page `last`.
abbrev pub pages_of : ℕ → Option ℕ → Option ℕ → Option (ℕ × ℕ)
pages_of last (Some lower) (Some upper) = cond (nat_lt last lower && nat_le lower upper) (Some (lower, upper)) None
pages_of last lower upper = None

abbrev pub pages_in : ℕ → Value → Option (ℕ × ℕ)
pages_in last (values.RangeOfInteger range) = pages_of last (natural_of range.lower) (natural_of range.upper)
pages_in last value = None

abbrev pub pages_text : ℕ × ℕ → List ℕ
pages_text p = cond (p.0 == p.1) (decimal p.0) (decimal p.0 ++ codes "-" ++ decimal p.1)

-- A comma after an earlier range. Pages are counted from 1.
abbrev pub comma_after : ℕ → List ℕ
comma_after last = cond (last == 0) [] (codes ",")

abbrev pub before : List ℕ → Option (List ℕ) → Option (List ℕ)
before text None = None
before text (Some rest) = Some (text ++ rest)

abbrev pub after_pages : ℕ → Option (ℕ × ℕ) → (ℕ → Option (List ℕ)) → Option (List ℕ)
after_pages last None rest = None
after_pages last (Some p) rest = before (comma_after last ++ pages_text p) (rest p.1)

-- Ranges in ascending order that do not overlap.
abbrev pub ranges_after : ℕ → List Value → Option (List ℕ)
ranges_after last [] = Some []
ranges_after last (value ∷ list) = after_pages last (pages_in last value) (λ page. ranges_after page list)

abbrev pub page_ranges_of : List Value → Option (List ℕ)
page_ranges_of list = cond (is_some_list list) (ranges_after 0 list) None

-- ## Resolutions

abbrev pub dots_of : List ℕ → Option ℕ → Option ℕ → Option (List ℕ)
dots_of supported (Some cross) (Some feed) =
    cond (cross == feed && list_any (λ dots. dots == cross) supported) (Some (decimal cross ++ codes "x" ++ decimal feed ++ codes "dpi")) None
dots_of supported cross feed = None

-- The resolutions of a printer, in dots per inch.
abbrev pub resolutions : List Property → List ℕ
resolutions printer = facts.resolutions_of (property_of kinds.Resolutions printer)

-- In dots per inch.
abbrev pub resolution_of : List ℕ → Value → Option (List ℕ)
resolution_of supported (values.Resolution resolution) =
    cond (resolution.units == 3) (dots_of supported (natural_of resolution.cross_feed) (natural_of resolution.feed)) None
resolution_of supported value = None

-- ## Attributes with a rule

-- A word, or a number in digits.
abbrev pub lent_value : List Property → Choice → List Value → Option (List ℕ)
lent_value printer NumberUp list = option_and_then number_up (integer_in list)
lent_value printer Orientation list = option_and_then orientation (enum_in list)
lent_value printer Quality list = option_and_then quality (enum_in list)
lent_value printer Finishings list = finishings_of list
lent_value printer choice list = option_and_then (chosen printer choice) (word_in list)

abbrev pub choice_value : List Property → Choice → List Value → Option (List ℕ)
choice_value printer PageRanges list = page_ranges_of list
choice_value printer ResolutionChoice list = option_and_then (resolution_of (resolutions printer)) (only list)
choice_value printer choice list = lent_value printer choice list

-- ## Other attributes, such as the options of a PPD file

-- Attributes about a job are no options, and `submission` is the spooler's own option.
abbrev pub is_reserved : List ℕ → Bool
is_reserved name = starts_with nat_eq name (codes "job-") || same name (codes "submission")

abbrev pub is_passed : List ℕ → Bool
is_passed name = is_option_name name && not (is_reserved name)

abbrev pub other_of : Value → Option (List ℕ)
other_of (values.Keyword text) = Some text
other_of (values.Name text) = Some text
other_of (values.Text text) = Some text
other_of (values.Integer n) = Some (signed_decimal n)
other_of (values.Boolean flag) = Some (cond flag (codes "true") (codes "false"))
other_of value = None

abbrev pub other_value : List Value → Option (List ℕ)
other_value list = option_and_then other_of (only list)
