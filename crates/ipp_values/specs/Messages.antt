-- What a message contains under a tag, and a group under a name.
use Rattle.std.specs.Prelude.{ℕ, List, Bool, ◌==◌, nat_eq}
use Rattle.std.specs.Cmp.Lexicographic.{pointwise}
use Rattle.ipp_values.specs.declared.tags.GroupTag.{GroupTag}
use Rattle.ipp_values.specs.declared.message.Group.{Group}
use Rattle.ipp_values.specs.declared.message.Attribute.{Attribute}
use Rattle.ipp_values.specs.Tags.{group_number}

abbrev pub has_tag : GroupTag → Group → Bool
has_tag tag group = group_number group.tag == group_number tag

abbrev pub is_named : List ℕ → Attribute → Bool
is_named name attribute = pointwise nat_eq attribute.name name
