-- The attributes of a queue: names with values, in ascending order of name, without duplicates.
use Rattle.std.specs.Prelude.{ℕ, nat_eq, List, Option}
use Rattle.std.specs.List.{find}
use Rattle.std.specs.Option.{option_map}
use Rattle.std.specs.Cmp.Lexicographic.{pointwise}
use Rattle.spool_types.specs.declared.effect.Attribute.{Attribute}
use Rattle.row_effects.specs.Keys.{with_kept}

abbrev pub name_of : Attribute → List ℕ
name_of attribute = attribute.name

-- The value of an existing name is replaced. If the list is full, a new name is dropped.
abbrev pub set_attribute : List Attribute → Attribute → List Attribute
set_attribute attributes attribute = with_kept name_of attribute attributes

-- The value of a name.
abbrev pub value_at : List ℕ → List Attribute → Option (List ℕ)
value_at name attributes = option_map (λ (a : Attribute). a.value) (find (λ (a : Attribute). pointwise nat_eq a.name name) attributes)
