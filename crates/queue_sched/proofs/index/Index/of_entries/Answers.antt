-- The sorted entries are the given ones.
use Rattle.std.proofs.Common.{List, sym, subst, ◌∙◌}
use Rattle.std.proofs.lemmas.List.Sorted.{length_permutation}
use Rattle.std.specs.List.Sorted.{IsPermutation}
use Rattle.queue_sched.specs.declared.entry.Entry.{Entry}
use Rattle.queue_sched.proofs.Numbered.{same_items}
use Rattle.queue_sched.proofs.index.Index.of_entries.Goals as goal

pub returns-clause-count : goal.returns-clause-count
returns-clause-count c =
    length_permutation _ _ (subst (λ (xs : List Entry). IsPermutation c.args.entries.items xs) (sym (c.fill.ensures.items ∙ c.deref.ensures.value)) c.sort.ensures.items)

pub returns-clause-items : goal.returns-clause-items
returns-clause-items c =
    same_items _ _ (subst (λ (xs : List Entry). IsPermutation c.args.entries.items xs) (sym (c.fill.ensures.items ∙ c.deref.ensures.value)) c.sort.ensures.items)
