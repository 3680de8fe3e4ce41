-- The job template attributes that the options of a job state: the values that became these options, as far as the text tells them.
use Rattle.std.specs.Prelude.{◌≡◌, ℕ, ◌-◌, pos, Bool, ◌&&◌, cond, nat_le, ◌==◌, List, [], ◌∷◌, ◌++◌, length, take, drop, map, codes, Option, None, Some}
use Rattle.std.specs.List.{slice_split}
use Rattle.std.specs.Option.{option_map, option_and_then}
use Rattle.line_words.specs.DecimalNumbers.{decimal}
use Rattle.filter_args.specs.Pairs.{Pair, value_of}
use Rattle.ipp_printers.specs.MediaNames.{parted}
use Rattle.ipp_printers.specs.declared.property.Property.{Property}
use Rattle.ipp_values.specs.TextLimits.{is_text}
use Rattle.ipp_values.specs.declared.value.Value.{Value}
use Rattle.ipp_values.specs.declared.value.Value.TheVariants as values
use Rattle.requested_attributes.specs.AttributeGroups.{StatedRow, row}
use Rattle.requested_attributes.specs.declared.groups.AttributeGroup.TheVariants.{JobTemplate}
use Rattle.ipp_options.specs.AttributeWords.{same}
use Rattle.ipp_options.specs.OptionValues.{lent_value, name_of}
use Rattle.ipp_options.specs.declared.choice.Choice.{Choice}
use Rattle.ipp_options.specs.declared.choice.Choice.TheVariants.{Media, Sides, NumberUp, Orientation, PageRanges, Quality, ColorMode, Scaling, Resolution, OutputBin, Finishings, Handling}

-- ## Numbers

-- At most 2,147,483,647, the greatest integer.
abbrev pub number_in : List ℕ → Option ℕ
number_in text = decimal 2147483647 text

abbrev pub both : Option ℕ → Option ℕ → Option (ℕ × ℕ)
both (Some a) (Some b) = Some (a, b)
both a b = None

abbrev pub pair_of : List ℕ → Option (List ℕ × List ℕ) → Option (ℕ × ℕ)
pair_of text None = option_map (λ n. (n, n)) (number_in text)
pair_of text (Some (first, second)) = both (number_in first) (number_in second)

-- Two numbers with this byte between them, or one number for both.
abbrev pub pair_in : ℕ → List ℕ → Option (ℕ × ℕ)
pair_in mark text = pair_of text (parted mark text)

abbrev pub one_or_none : Option Value → List Value
one_or_none None = []
one_or_none (Some value) = value ∷ []

abbrev pub integer_in : List ℕ → Option Value
integer_in text = option_map (λ n. values.Integer (pos n)) (number_in text)

abbrev pub enum_in : List ℕ → Option Value
enum_in text = option_map (λ n. values.Enum (pos n)) (number_in text)

-- ## Ranges of pages

-- Pages are counted from 1.
abbrev pub range_between : ℕ × ℕ → Option Value
range_between p = cond (nat_le 1 p.0 && nat_le p.0 p.1) (Some (values.RangeOfInteger (record { lower = pos p.0; upper = pos p.1 }))) None

-- `1-3`, or `7` for one page.
abbrev pub range_in : List ℕ → Option Value
range_in text = option_and_then range_between (pair_in 45 text)

abbrev pub is_comma : ℕ → Bool
is_comma b = b == 44

abbrev pub after_range : Option Value → (Value → List Value) → List Value
after_range None others = []
after_range (Some range) others = others range

-- The ranges that were read, and those of these texts. There are none if one of the texts is no range.
abbrev pub ranges_of : List Value → List (List ℕ) → List Value
ranges_of read [] = read
ranges_of read (text ∷ texts) = after_range (range_in text) (λ range. ranges_of (read ++ range ∷ []) texts)

abbrev pub ranges_in : List ℕ → List Value
ranges_in text = ranges_of [] (slice_split is_comma text)

-- ## Resolutions

abbrev pub dots_between : ℕ × ℕ → Value
dots_between p = values.Resolution (record { cross_feed = pos p.0; feed = pos p.1; units = 3 })

-- `600x300dpi`, or `600dpi` for both directions.
abbrev pub resolution_in : List ℕ → Option Value
resolution_in text =
    cond (nat_le 3 (length text) && same (drop (length text - 3) text) (codes "dpi")) (option_map dots_between (pair_in 120 (take (length text - 3) text))) None

-- ## Attributes

abbrev pub keyword_in : List ℕ → Option Value
keyword_in text = cond (is_text 1 255 127 text) (Some (values.Keyword text)) None

-- The values of an attribute, from the text of its option. There are none if the text is no value of the attribute.
abbrev pub values_of : Choice → List ℕ → List Value
values_of NumberUp text = one_or_none (integer_in text)
values_of Orientation text = one_or_none (enum_in text)
values_of Quality text = one_or_none (enum_in text)
values_of Finishings text = one_or_none (enum_in text)
values_of PageRanges text = ranges_in text
values_of Resolution text = one_or_none (resolution_in text)
values_of choice text = one_or_none (keyword_in text)

abbrev pub values_by : Choice → Option (List ℕ) → List Value
values_by choice None = []
values_by choice (Some text) = values_of choice text

abbrev pub stated_row : List Pair → Choice → StatedRow
stated_row options choice = row (name_of choice) JobTemplate (values_by choice (value_of (name_of choice) options))

-- In the order of their names.
abbrev pub all_choices : List Choice
all_choices = Finishings ∷ Media ∷ Handling ∷ NumberUp ∷ Orientation ∷ OutputBin ∷ PageRanges ∷ ColorMode ∷ Quality ∷ Scaling ∷ Resolution ∷ Sides ∷ []

abbrev pub stated_rows : List Pair → List StatedRow
stated_rows options = map (stated_row options) all_choices

-- ## Asked for again

-- The values become an option with this text. The text of ranges of pages and of a resolution is made from numbers, and not among these.
abbrev pub IsTaken : List Property → Choice → List Value → List ℕ → Type 0
IsTaken printer choice list text = lent_value printer choice list ≡ Some text

-- The values that are stated of an option with this text become the same option again.
abbrev pub IsTakenAgain : List Property → Choice → List ℕ → Type 0
IsTakenAgain printer choice text = IsTaken printer choice (values_of choice text) text
