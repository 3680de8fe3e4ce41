-- The meaning of the lines of a printers file.
use Rattle.std.specs.Prelude.{ℕ, Bool, true, ◌&&◌, cond, ◌==◌, List, [], ◌∷◌, codes, map, Option, None, Some}
use Rattle.std.specs.List.{slice_split}
use Rattle.line_words.specs.Blanks.{is_blank, first_word, after_word, trimmed}
use Rattle.spool_types.specs.Values.{is_queue_name, text_in}
use Rattle.ipp_printers.specs.MediaNames.{same}
use Rattle.ipp_printers.specs.PropertyKinds.{kind_named}
use Rattle.ipp_printers.specs.PropertyValues.{is_empty, property_in}
use Rattle.ipp_printers.specs.declared.kind.PropertyKind.{PropertyKind}
use Rattle.ipp_printers.specs.declared.property.Property as properties
use Rattle.ipp_printers.specs.declared.fault.LineFault.TheVariants.{UnknownWord, BadQueue, BadValue}
use Rattle.ipp_printers.specs.declared.line.Line.{Line}
use Rattle.ipp_printers.specs.declared.line.Line.TheVariants.{Blank, Queue, Property, Invalid}

-- A line ends with its line feed. The bytes after the last line feed are a line too.
abbrev pub lines_of : List ℕ → List (List ℕ)
lines_of text = slice_split (λ b. b == 10) text

-- The bytes before a comment. A `#` begins one at the line's start and after a blank; `fresh` means there.
abbrev pub uncommented : Bool → List ℕ → List ℕ
uncommented fresh [] = []
uncommented fresh (b ∷ bs) = cond (fresh && b == 35) [] (b ∷ uncommented (is_blank b) bs)

abbrev pub queue_line : Option (List ℕ) → Line
queue_line None = Invalid BadQueue
queue_line (Some name) = Queue name

abbrev pub valued_line : PropertyKind → Option properties.Property → Line
valued_line kind None = Invalid (BadValue kind)
valued_line kind (Some property) = Property property

abbrev pub property_line : Option PropertyKind → List ℕ → Line
property_line None value = Invalid UnknownWord
property_line (Some kind) value = valued_line kind (property_in kind value)

-- A first word, and the rest of the line without the blanks around it.
abbrev pub worded_line : List ℕ → List ℕ → Line
worded_line word value =
    cond (is_empty word) Blank
    (cond (same word (codes "queue")) (queue_line (text_in is_queue_name value))
    (property_line (kind_named word) value))

abbrev pub uncommented_line : List ℕ → Line
uncommented_line line = worded_line (first_word line) (trimmed (after_word line))

abbrev pub line_in : List ℕ → Line
line_in line = uncommented_line (uncommented true line)

-- The meanings of the lines of a text, in order.
abbrev pub lines_in : List ℕ → List Line
lines_in text = map line_in (lines_of text)
