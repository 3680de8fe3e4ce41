-- The closure compares an attribute's name with the given name.
use Rattle.std.proofs.Common.{rules}
use Rattle.std.specs.Ordering.{nat_cmp}
use Rattle.std.specs.Cmp.Lexicographic.{slice_cmp}
use Rattle.std.proofs.lemmas.Fn.{always_returns_same}
use Rattle.row_effects.specs.QueueAttributes.{name_of}
use Rattle.row_effects.proofs.Keys.{searched}
use Rattle.row_effects.proofs.changes.attribute_position.Goals as goal

pub returns-clause-found : goal.returns-clause-found
returns-clause-found c =
    let by_name = c.binary_search_by.ensures.position (λ a. slice_cmp nat_cmp a.name c.args.name.now) (always_returns_same _ _ _ (λ a r g called. (search rules, search rules))) in
    (searched name_of c.args.attributes.now c.requires c.args.name.now _ c.binary_search_by.ensures.bound by_name).found

pub returns-clause-absent : goal.returns-clause-absent
returns-clause-absent c =
    let by_name = c.binary_search_by.ensures.position (λ a. slice_cmp nat_cmp a.name c.args.name.now) (always_returns_same _ _ _ (λ a r g called. (search rules, search rules))) in
    (searched name_of c.args.attributes.now c.requires c.args.name.now _ c.binary_search_by.ensures.bound by_name).absent
