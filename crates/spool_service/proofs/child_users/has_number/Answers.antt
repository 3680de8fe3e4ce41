-- The test of the users is the test of their numbers.
use Rattle.std.proofs.Common.{eqb, rules, tests, sym, ◌∙◌}
use Rattle.std.proofs.lemmas.Iterator.{YieldsList-from_slice}
use Rattle.std.proofs.lemmas.Iterator.Search.{any_from_yields_List}
use Rattle.spool_types.proofs.Lists.{list_any-map}
use Rattle.spool_runtime.specs.declared.child_users.ChildUser.{ChildUser}
use Rattle.spool_service.proofs.child_users.has_number.Goals as goal

pub returns : goal.returns
returns c =
    any_from_yields_List (λ (user : ChildUser). eqb c.args.uid user.uid) _ _ _ c.any.ensures.ran
    (YieldsList-from_slice c.args.users.now cc) (λ x b q k. search (rules, tests))
    ∙ sym (list_any-map (eqb c.args.uid) (λ (user : ChildUser). user.uid) c.args.users.now)
