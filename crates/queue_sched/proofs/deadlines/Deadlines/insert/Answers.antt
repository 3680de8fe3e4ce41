-- One more deadline.
use Rattle.std.proofs.Common.{◌↔◌, ◌⊎◌, ◌≡◌, ◌<◌, length, sym, ap, subst, arith}
use Rattle.std.proofs.lemmas.List.Edits.{length-insert}
use Rattle.std.specs.List.{Contains}
use Rattle.queue_sched.specs.Deadlines.{InTurn, LacksDeadline, comes_before}
use Rattle.queue_sched.proofs.Earliest.{itself, onward, other_way}
use Rattle.queue_sched.proofs.Ordered.{in_order_insert, has_more}
use Rattle.queue_sched.proofs.deadlines.Deadlines.insert.Goals as goal

pub invariant_of-self : goal.invariant_of-self
invariant_of-self c =
    let xs = c.self.inside.items.items in
    let new = c.args.deadline in
    let put = c.put.ensures in
    let absent = subst (λ w. LacksDeadline w.items new.id) (sym c.self.view_is) c.requires.absent in
    let spare = subst (λ w. length w.items < w.room) (sym c.self.view_is) c.requires.room in
    record {
      order = subst InTurn (sym put.items)
          (in_order_insert comes_before itself onward xs new c.put.result put.in_range c.self.invariant.order (λ d there not_so. other_way new d (λ same. absent d there (sym same)) not_so) put.before put.behind);
      fits = omega (arith, ap length put.items, length-insert xs c.put.result new put.in_range, spare);
      room_of_items = omega (arith, c.self.invariant.room_of_items, put.capacity);
    }

pub returns-clause-items : goal.returns-clause-items
returns-clause-items c = λ d.
    let xs = c.self.inside.items.items in
    subst (λ w. Contains c.put.new.items.items d ↔ (Contains w.items d ⊎ (d ≡ c.args.deadline))) c.self.view_is
    (subst (λ l. Contains l d ↔ (Contains xs d ⊎ (d ≡ c.args.deadline))) (sym c.put.ensures.items) (has_more comes_before itself onward xs c.args.deadline c.put.result d))
