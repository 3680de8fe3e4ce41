-- One less deadline.
use Rattle.std.proofs.Common.{◌↔◌, ◌≡◌, length, sym, ap, subst, arith}
use Rattle.std.proofs.lemmas.List.Edits.{length-remove}
use Rattle.std.specs.List.{Contains}
use Rattle.queue_sched.specs.Deadlines.{InTurn, comes_before}
use Rattle.queue_sched.proofs.Earliest.{itself, onward}
use Rattle.queue_sched.proofs.Ordered.{in_order_remove, has_less}
use Rattle.queue_sched.proofs.deadlines.Deadlines.remove.Goals as goal

pub invariant_of-self : goal.invariant_of-self
invariant_of-self c =
    let xs = c.self.inside.items.items in
    let take = c.take.ensures in
    record {
      order = subst InTurn (sym take.items) (in_order_remove comes_before itself onward xs c.args.deadline c.take.result take.in_range take.here c.self.invariant.order);
      fits = omega (arith, ap length take.items, length-remove xs c.take.result take.in_range, c.self.invariant.fits);
      room_of_items = omega (arith, c.self.invariant.room_of_items, take.capacity);
    }

pub returns-clause-items : goal.returns-clause-items
returns-clause-items c = λ d.
    let xs = c.self.inside.items.items in
    subst (λ w. Contains c.take.new.items.items d ↔ (Contains w.items d × ¬ (d ≡ c.args.deadline))) c.self.view_is
    (subst (λ l. Contains l d ↔ (Contains xs d × ¬ (d ≡ c.args.deadline))) (sym c.take.ensures.items)
    (has_less comes_before itself onward xs c.args.deadline c.take.result c.take.ensures.in_range c.take.ensures.here c.self.invariant.order d))
