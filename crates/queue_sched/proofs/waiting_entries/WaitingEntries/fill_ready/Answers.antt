-- The slots are those of the startable entries.
use Rattle.std.proofs.Common.{length, sym, ap, subst, ◌∙◌, arith}
use Rattle.std.specs.List.{filter}
use Rattle.queue_sched.specs.WaitingIndex.{is_startable}
use Rattle.queue_sched.specs.OrderSlots.{items_of, InSlotOrder, IsFirstThere}
use Rattle.queue_sched.proofs.SlotLists.{picked, picked_count, picked_first, picked_in_order}
use Rattle.queue_sched.proofs.waiting_entries.WaitingEntries.fill_ready.Goals as goal

pub invariant_of-self : goal.invariant_of-self
invariant_of-self c =
    let p = is_startable c.args.now in
    let ss = c.all.inside.slots.items in
    let is = c.pick_ready.ensures.items in
    let count = ap (λ l. length (items_of l)) is ∙ picked_count p ss ∙ ap length (sym is) in
    record {
      order = subst InSlotOrder (sym is) (picked_in_order p ss c.all.invariant.order);
      count = omega (arith, count);
      few = omega arith;
      first = subst IsFirstThere (sym is) (picked_first p ss);
    }

pub returns-clause-items : goal.returns-clause-items
returns-clause-items c =
    let p = is_startable c.args.now in
    ap items_of c.pick_ready.ensures.items ∙ picked p c.all.inside.slots.items ∙ ap (λ w. filter p w.items) c.all.view_is

pub pick_ready-requires : goal.pick_ready-requires
pick_ready-requires c = omega (arith, c.requires, ap (λ w. w.room) c.self.view_is, ap (λ w. length w.items) c.all.view_is)
