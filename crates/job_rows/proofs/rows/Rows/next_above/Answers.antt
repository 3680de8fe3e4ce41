-- The slots from this position on are those above the number.
use Rattle.std.proofs.Common.{◌≡◌, ◌+◌, ◌-◌, List, length, take, drop, sym, ap, subst, ◌∙◌, arith, length-drop}
use Rattle.std.proofs.lemmas.List.{take_all}
use Rattle.std.specs.Prelude.{slice_get}
use Rattle.job_rows.specs.declared.slot.Slot.{Slot}
use Rattle.job_rows.specs.NumberedRows.{Listed, first_above}
use Rattle.job_rows.specs.RowSlots.{IsParted, first_number}
use Rattle.job_rows.proofs.Ending.{first_parted, first_higher, first_there, first_behind}
use Rattle.job_rows.proofs.rows.Rows.next_above.Goals as goal

pub returns-clause-value : goal.returns-clause-value
returns-clause-value c =
    let ss = c.self.inside.slots.items in
    let from = c.count_up_to-from.result in
    let parted : IsParted ss c.args.number from = subst (λ (xs : List Slot). IsParted xs c.args.number from) c.deref.ensures.value c.count_up_to-from.ensures in
    c.first_number.ensures
    ∙ ap (λ xs. first_number xs) (rest c.deref-2.result.now from)
    ∙ ap (λ (xs : List Slot). first_number (drop from xs)) c.deref-2.ensures.value
    ∙ sym (first_parted ss c.args.number from parted)
    ∙ ap (λ (v : Listed). first_above c.args.number v.numbers) c.self.view_is
  where
    rest : (xs : List Slot) (from : _) → take (length xs - from) (drop from xs) ≡ drop from xs
    rest xs from = take_all (length xs - from) (drop from xs) (omega (arith, length-drop from xs))

pub returns-clause-above : goal.returns-clause-above
returns-clause-above c = first_higher c.args.self.now.numbers c.args.number c.first_number.result (returns-clause-value c)

pub returns-clause-there : goal.returns-clause-there
returns-clause-there c = first_there c.args.self.now.numbers c.args.number c.first_number.result (returns-clause-value c)

pub returns-clause-behind : goal.returns-clause-behind
returns-clause-behind c = λ at is.
    returns-clause-value c
    ∙ ap (λ (v : Listed). first_above c.args.number v.numbers) (sym c.self.view_is)
    ∙ first_behind c.self.inside.slots.items c.self.invariant.order at c.args.number (ap (λ (v : Listed). slice_get v.numbers at) c.self.view_is ∙ is)
    ∙ ap (λ (v : Listed). slice_get v.numbers (at + 1)) c.self.view_is
