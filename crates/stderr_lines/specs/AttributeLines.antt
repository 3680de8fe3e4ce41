-- The attributes that a line sets: `ATTR: name=value ..`.
use Rattle.std.specs.Prelude.{ℕ, cond, List, Option, None, Some}
use Rattle.std.specs.List.{filter_map}
use Rattle.spool_types.specs.Values.{is_attribute_name}
use Rattle.spool_types.specs.declared.effect.Effect.{Effect}
use Rattle.spool_types.specs.declared.effect.Effect.TheVariants.{Attribute}
use Rattle.stderr_lines.specs.Cuts.{cut_at}
use Rattle.line_words.specs.Quoting.{said, pieces}
use Rattle.line_words.specs.declared.quoting.Quoting.TheVariants.{Bare}

abbrev pub pair_of : List ℕ → List ℕ → Option Effect
pair_of name value = cond (is_attribute_name name) (Some (Attribute (record { name = name; value = said Bare value }))) None

abbrev pub cut_pair : Option (List ℕ × List ℕ) → Option Effect
cut_pair None = None
cut_pair (Some (name, value)) = pair_of name value

-- A word is a pair if a name precedes its first `=`.
abbrev pub attribute_of : List ℕ → Option Effect
attribute_of word = cut_pair (cut_at 61 word)

-- The pairs in order. Other words are skipped.
abbrev pub attribute_effects : List ℕ → List Effect
attribute_effects text = filter_map attribute_of (pieces Bare text)
