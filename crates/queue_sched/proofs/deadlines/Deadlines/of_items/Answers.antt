-- The sorted deadlines are the given ones.
use Rattle.std.proofs.Common.{List, sym, subst}
use Rattle.std.proofs.lemmas.List.Sorted.{length_permutation}
use Rattle.std.specs.List.Sorted.{IsPermutation}
use Rattle.queue_sched.specs.declared.deadlines.Deadline.{Deadline}
use Rattle.queue_sched.proofs.Numbered.{same_items}
use Rattle.queue_sched.proofs.deadlines.Deadlines.of_items.Goals as goal

pub returns-clause-count : goal.returns-clause-count
returns-clause-count c =
    length_permutation _ _ (subst (λ (xs : List Deadline). IsPermutation c.args.items.items xs) (sym c.from_vec-items.ensures.items) c.sort.ensures.items)

pub returns-clause-items : goal.returns-clause-items
returns-clause-items c =
    same_items _ _ (subst (λ (xs : List Deadline). IsPermutation c.args.items.items xs) (sym c.from_vec-items.ensures.items) c.sort.ensures.items)
