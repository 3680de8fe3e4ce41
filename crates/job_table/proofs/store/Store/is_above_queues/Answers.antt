-- The last row has the greatest key.
use Rattle.std.proofs.Common.{sym, ap, subst, ◌∙◌}
use Rattle.std.specs.Ordering.{nat_cmp}
use Rattle.std.specs.Cmp.Lexicographic.{slice_cmp, nat_list_cmp_total}
use Rattle.std.specs.FinMap as finite
use Rattle.job_table.specs.Loading.{IsAbove}
use Rattle.job_table.proofs.Above.{above_yes, above_no, above_none}
use Rattle.job_table.proofs.Tables.{keys_queues}
use Rattle.job_table.proofs.store.Store.is_above_queues.Goals as goal

pub returns-in-Some-clause-yes : goal.returns-in-Some-clause-yes
returns-in-Some-clause-yes c = λ lt.
    let keys = ap (λ v. finite.keys v.state.queues) (sym c.self.view_is) ∙ keys_queues c.self.inside.queues.items c.self.invariant.queues in
    let item = rw c.deref.ensures.value at c.in-Some.ensures.item in
    subst (IsAbove (slice_cmp nat_cmp) c.args.name.now) (sym keys) (above_yes (slice_cmp nat_cmp) nat_list_cmp_total (λ r. r.name) (λ r. r) c.args.name.now c.self.inside.queues.items c.self.invariant.queues c.in-Some.last.now item.3.0 item.1 (sym c.lt.ensures ∙ lt))

pub returns-in-Some-clause-no : goal.returns-in-Some-clause-no
returns-in-Some-clause-no c = λ lt above.
    let keys = ap (λ v. finite.keys v.state.queues) (sym c.self.view_is) ∙ keys_queues c.self.inside.queues.items c.self.invariant.queues in
    let item = rw c.deref.ensures.value at c.in-Some.ensures.item in
    above_no (slice_cmp nat_cmp) nat_list_cmp_total (λ r. r.name) (λ r. r) c.args.name.now c.self.inside.queues.items c.in-Some.last.now item.3.0 item.1 (sym c.lt.ensures ∙ lt) (subst (IsAbove (slice_cmp nat_cmp) c.args.name.now) keys above)

pub returns-in-None-clause-yes : goal.returns-in-None-clause-yes
returns-in-None-clause-yes c = λ _.
    let keys = ap (λ v. finite.keys v.state.queues) (sym c.self.view_is) ∙ keys_queues c.self.inside.queues.items c.self.invariant.queues in
    let item = rw c.deref.ensures.value at c.in-None.ensures.item in
    subst (IsAbove (slice_cmp nat_cmp) c.args.name.now) (sym keys) (above_none (slice_cmp nat_cmp) nat_list_cmp_total (λ r. r.name) (λ r. r) c.args.name.now c.self.inside.queues.items item.3)
