-- The first deadline is not before the moment, and no other is earlier.
use Rattle.std.proofs.Common.{sym, subst, ◌∙◌, arith}
use Rattle.std.proofs.lemmas.Map.Keys.{ge_from_not_lt}
use Rattle.std.specs.List.{Contains}
use Rattle.queue_sched.proofs.Earliest.{first_is_least}
use Rattle.queue_sched.proofs.deadlines.Deadlines.first_before.Goals as goal

pub returns-else-lt-clause-none : goal.returns-else-lt-clause-none
returns-else-lt-clause-none c = λ none d there.
    let xs = c.self.inside.items.items in
    let first = c.in_ok-first.first.now in
    let item = c.in_ok-first.ensures.item in
    let here = subst (λ w. Contains w.items d) (sym c.self.view_is) there in
    let least = first_is_least xs first c.self.invariant.order (sym (item.3.1 first)) d here in
    let later = ge_from_not_lt first.by c.args.moment (sym c.lt.ensures ∙ c.if-lt.false) in
    omega (arith, least, later)
