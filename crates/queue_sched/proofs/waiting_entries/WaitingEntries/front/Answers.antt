-- The first slot is not gone.
use Rattle.std.proofs.Common.{◌≡◌, rules, None, slice_get, ap, ◌∙◌, arith}
use Rattle.std.specs.Option.{option_copied}
use Rattle.queue_sched.proofs.SlotLists.{first_item, first_none}
use Rattle.queue_sched.proofs.waiting_entries.WaitingEntries.front.Goals as goal

pub returns : goal.returns
returns c =
    let found = c.in_ok-slot.ensures.item.3 in
    first_item c.self.inside.slots.items c.in_ok-slot.slot.now c.self.invariant.first found.0 (found.1 c.in_ok-slot.slot.now) ∙ ap (λ w. slice_get w.items 0) c.self.view_is

pub returns-in_err-slot : goal.returns-in_err-slot
returns-in_err-slot c =
    let nothing : option_copied c.from_residual.result ≡ None = search rules in
    nothing ∙ first_none c.self.inside.slots.items (omega (arith, c.in_err-slot.ensures.item.3)) ∙ ap (λ w. slice_get w.items 0) c.self.view_is
