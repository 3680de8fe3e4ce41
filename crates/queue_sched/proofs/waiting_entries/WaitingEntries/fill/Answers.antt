-- The slots are those of the entries.
use Rattle.std.proofs.Common.{length, sym, ap, subst, ◌∙◌, arith}
use Rattle.std.proofs.lemmas.List.{length-map}
use Rattle.queue_sched.specs.OrderSlots.{items_of, there_of, InSlotOrder, IsFirstThere}
use Rattle.queue_sched.proofs.SlotLists.{filled, filled_first, filled_in_order}
use Rattle.queue_sched.proofs.waiting_entries.WaitingEntries.fill.Goals as goal

pub invariant_of-self : goal.invariant_of-self
invariant_of-self c =
    let es = c.args.entries.now in
    let is = c.fill_slots.ensures.items in
    let long = length-map es there_of in
    record {
      order = subst InSlotOrder (sym is) (filled_in_order es c.requires.order);
      count = ap (λ l. length (items_of l)) is ∙ ap length (filled es);
      few = omega (arith, ap length is, long);
      first = subst IsFirstThere (sym is) (filled_first es);
    }

pub returns-clause-items : goal.returns-clause-items
returns-clause-items c = ap items_of c.fill_slots.ensures.items ∙ filled c.args.entries.now

pub fill_slots-requires : goal.fill_slots-requires
fill_slots-requires c = omega (arith, c.requires.room, ap (λ w. w.room) c.self.view_is)
