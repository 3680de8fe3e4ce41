-- Effects whose texts are borrowed from the line. Internal: no caller needs this.
use Rattle.std.specs.Prelude.{◌≡◌, ℕ, ◌≤◌, true, List, length}
use Rattle.std.specs.List.{list_all}
use Rattle.spool_types.specs.Values.{is_printable, is_attribute_name}
use Rattle.spool_types.specs.declared.effect.Effect.{Effect}
use Rattle.spool_types.specs.declared.effect.Effect.TheVariants as effects
use Rattle.stderr_lines.specs.declared.draft.Change.{Change}
use Rattle.stderr_lines.specs.declared.draft.Change.TheVariants.{Set, Add, Remove}
use Rattle.stderr_lines.specs.declared.draft.Draft.{Draft}
use Rattle.stderr_lines.specs.declared.draft.Draft.TheVariants.{Pages, TotalPages, Reasons, Attribute, Message}
use Rattle.stderr_lines.specs.ReasonLines.{reasons_of}
use Rattle.line_words.specs.Quoting.{said}
use Rattle.line_words.specs.declared.quoting.Quoting.TheVariants.{Bare}

-- Bytes of the text of a line.
pub record IsLineText (text : List ℕ) : Type 0 where
  pub short : length text ≤ 1023
  pub printable : list_all is_printable text ≡ true

abbrev pub changed : Change → List (List ℕ) → Effect
changed Set words = effects.SetReasons words
changed Add words = effects.AddReasons words
changed Remove words = effects.DropReasons words

abbrev pub effect_of : Draft → Effect
effect_of (Pages page copies) = effects.Pages page copies
effect_of (TotalPages pages) = effects.TotalPages pages
effect_of (Reasons change words) = changed change (reasons_of words.now)
effect_of (Attribute name value) = effects.Attribute (record { name = name.now; value = said Bare value.now })
effect_of (Message level text) = effects.Message level text.now

-- The draft's texts are texts of a line, and the name of an attribute is valid.
abbrev pub IsSound : Draft → Type 0
IsSound (Pages page copies) = Unit {0}
IsSound (TotalPages pages) = Unit {0}
IsSound (Reasons change words) = IsLineText words.now
IsSound (Attribute name value) = (is_attribute_name name.now ≡ true) × IsLineText value.now
IsSound (Message level text) = IsLineText text.now
