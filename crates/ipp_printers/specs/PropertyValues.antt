-- The values that lines give to properties.
use Rattle.std.specs.Prelude.{ℕ, Bool, true, false, cond, not, nat_le, ◌==◌, List, [], ◌∷◌, length, codes, filter, Option, None, Some}
use Rattle.std.specs.List.{slice_split}
use Rattle.std.specs.Option.{option_map, option_and_then}
use Rattle.line_words.specs.Blanks.{is_blank}
use Rattle.line_words.specs.DecimalNumbers.{decimal}
use Rattle.spool_types.specs.Values.{is_note, is_message, text_in}
use Rattle.ipp_printers.specs.MediaNames.{same, is_keyword, media_in}
use Rattle.ipp_printers.specs.declared.kind.PropertyKind.{PropertyKind}
use Rattle.ipp_printers.specs.declared.kind.PropertyKind.TheVariants as kinds
use Rattle.ipp_printers.specs.declared.property.Property.{Property}
use Rattle.ipp_printers.specs.declared.property.Property.TheVariants.{Info, Location, MakeAndModel, DeviceId, Media, Color, Duplex, Resolutions, OutputBins, PagesPerMinute, ColorPagesPerMinute}

abbrev pub is_empty : List ℕ → Bool
is_empty word = length word == 0

-- ## Lists of words

-- The words between the blanks.
abbrev pub words_of : List ℕ → List (List ℕ)
words_of value = filter (λ word. not (is_empty word)) (slice_split is_blank value)

abbrev pub onto : {A : Type 0} → Option A → Option (List A) → Option (List A)
onto (Some x) (Some xs) = Some (x ∷ xs)
onto x xs = None

-- The values of all words, if each has one.
abbrev pub every : {A : Type 0} → (List ℕ → Option A) → List (List ℕ) → Option (List A)
every read [] = Some []
every read (word ∷ words) = onto (read word) (every read words)

abbrev pub few : {A : Type 0} → List A → Option (List A)
few items = cond (nat_le (length items) 64) (Some items) None

-- At most 64 words, each with a value.
abbrev pub items_in : {A : Type 0} → (List ℕ → Option A) → List ℕ → Option (List A)
items_in read value = option_and_then few (every read (words_of value))

-- ## Single words

abbrev pub flag_in : List ℕ → Option Bool
flag_in word = cond (same word (codes "yes")) (Some true) (cond (same word (codes "no")) (Some false) None)

abbrev pub at_least : ℕ → ℕ → Option ℕ
at_least least n = cond (nat_le least n) (Some n) None

-- The number that the word states, if it is in this range.
abbrev pub ranged_in : ℕ → ℕ → List ℕ → Option ℕ
ranged_in least most word = option_and_then (at_least least) (decimal most word)

-- Dots per inch.
abbrev pub resolution_in : List ℕ → Option ℕ
resolution_in word = ranged_in 1 65535 word

abbrev pub rate_in : List ℕ → Option ℕ
rate_in word = ranged_in 1 2147483647 word

-- ## Properties

abbrev pub value_in : PropertyKind → List ℕ → Option Property
value_in kinds.Info value = option_map (λ text. Info text) (text_in is_note value)
value_in kinds.Location value = option_map (λ text. Location text) (text_in is_note value)
value_in kinds.MakeAndModel value = option_map (λ text. MakeAndModel text) (text_in is_note value)
value_in kinds.DeviceId value = option_map (λ text. DeviceId text) (text_in is_message value)
value_in kinds.Media value = option_map (λ sizes. Media sizes) (items_in media_in value)
value_in kinds.Color value = option_map (λ flag. Color flag) (flag_in value)
value_in kinds.Duplex value = option_map (λ flag. Duplex flag) (flag_in value)
value_in kinds.Resolutions value = option_map (λ resolutions. Resolutions resolutions) (items_in resolution_in value)
value_in kinds.OutputBins value = option_map (λ bins. OutputBins bins) (items_in (text_in is_keyword) value)
value_in kinds.PagesPerMinute value = option_map (λ rate. PagesPerMinute rate) (rate_in value)
value_in kinds.ColorPagesPerMinute value = option_map (λ rate. ColorPagesPerMinute rate) (rate_in value)

-- The property with this value. No property has an empty value.
abbrev pub property_in : PropertyKind → List ℕ → Option Property
property_in kind value = cond (is_empty value) None (value_in kind value)

abbrev pub kind_of : Property → PropertyKind
kind_of (Info text) = kinds.Info
kind_of (Location text) = kinds.Location
kind_of (MakeAndModel text) = kinds.MakeAndModel
kind_of (DeviceId text) = kinds.DeviceId
kind_of (Media sizes) = kinds.Media
kind_of (Color flag) = kinds.Color
kind_of (Duplex flag) = kinds.Duplex
kind_of (Resolutions resolutions) = kinds.Resolutions
kind_of (OutputBins bins) = kinds.OutputBins
kind_of (PagesPerMinute rate) = kinds.PagesPerMinute
kind_of (ColorPagesPerMinute rate) = kinds.ColorPagesPerMinute
