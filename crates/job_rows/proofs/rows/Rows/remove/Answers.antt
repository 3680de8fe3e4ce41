-- The slot of the number is marked as gone.
use Rattle.std.proofs.Common.{◌≡◌, ◌+◌, IsTrue, get_or, set, map, sym, ap, subst, ◌∙◌}
use Rattle.std.specs.FinMap as finite
use Rattle.std.specs.Ordering.{nat_cmp}
use Rattle.job_rows.specs.declared.slot.Slot.{Slot}
use Rattle.job_rows.specs.declared.slot.Slot.TheVariants.{Held, Gone}
use Rattle.job_rows.specs.RowPositions.{IsPosition}
use Rattle.job_rows.specs.NumberedRows.{Listed, HasNumber, HasRow}
use Rattle.job_rows.specs.RowSlots.{number_of, slot_entry, held, numbers, gone_count}
use Rattle.job_rows.proofs.Holding.{no_gap, has_row, slot_is, count_gone, order_set}
use Rattle.job_rows.proofs.Found.{taken_found, gone_is}
use Rattle.job_rows.proofs.rows.Rows.remove.Goals as goal

pub unreachable-requires : goal.unreachable-requires
unreachable-requires c =
    no_gap c.self.inside.slots.items c.self.invariant.order c.args.id c.in_default.field-0
    (subst (λ (v : Listed). HasNumber v.numbers c.args.id) (sym c.self.view_is) c.requires)
    (rw c.deref.ensures.value at c.in_default.ensures.absent)

pub take-row-requires : goal.take-row-requires
take-row-requires c =
    has_row c.self.inside.slots.items c.self.invariant.order c.args.id c.in-Ok.at
    (subst (λ (v : Listed). HasNumber v.numbers c.args.id) (sym c.self.view_is) c.requires)
    c.index_mut.result.now c.index_mut.ensures.value
    (rw c.deref.ensures.value at c.in-Ok.ensures.found)

pub let_go-self-inside-requires-clause-order : goal.let_go-self-inside-requires-clause-order
let_go-self-inside-requires-clause-order c =
    let ss = c.self.inside.slots.items in
    let at = c.in-Ok.at in
    let s = c.index_mut.result.now in
    let place : IsPosition nat_cmp number_of ss c.args.id at = rw c.deref.ensures.value at c.in-Ok.ensures.found in
    subst (λ (t : Slot). IsTrue (finite.is_sorted nat_cmp (map slot_entry (set ss at t)))) (sym c.take-row.ensures.gone)
    (order_set ss c.self.invariant.order c.args.id at s (Gone (number_of s)) place (ap number_of (sym c.index_mut.ensures.value)))

pub let_go-self-inside-requires-clause-count : goal.let_go-self-inside-requires-clause-count
let_go-self-inside-requires-clause-count c =
    let ss = c.self.inside.slots.items in
    let at = c.in-Ok.at in
    let s = c.index_mut.result.now in
    let row = c.take-row.result in
    let place : IsPosition nat_cmp number_of ss c.args.id at = rw c.deref.ensures.value at c.in-Ok.ensures.found in
    let is : get_or ss at s ≡ Held (number_of s) row = slot_is ss at s row c.index_mut.ensures.value c.take-row.ensures.row in
    ap (λ n. n + 1) c.self.invariant.count
    ∙ sym (count_gone (number_of s) row ss at s (number_of s) place.in_range is)
    ∙ ap (λ (t : Slot). gone_count (set ss at t)) (sym c.take-row.ensures.gone)

pub returns-clause-found : goal.returns-clause-found
returns-clause-found c =
    let place : IsPosition nat_cmp number_of c.self.inside.slots.items c.args.id c.in-Ok.at = rw c.deref.ensures.value at c.in-Ok.ensures.found in
    subst (λ (v : Listed). HasRow v c.args.id c.take-row.result) c.self.view_is
    (taken_found c.self.inside c.self.invariant c.args.id c.in-Ok.at place c.index_mut.result.now c.take-row.result c.index_mut.ensures.value c.take-row.ensures.row)

pub returns-clause-rows : goal.returns-clause-rows
returns-clause-rows c =
    let ss = c.self.inside.slots.items in
    let at = c.in-Ok.at in
    let place : IsPosition nat_cmp number_of ss c.args.id at = rw c.deref.ensures.value at c.in-Ok.ensures.found in
    gone_is c.self.inside c.self.invariant c.args.id at place c.index_mut.result.now c.take-row.result c.index_mut.ensures.value c.take-row.ensures.row
    c.let_go-self-inside.new.slots.items _
    (c.let_go-self-inside.ensures.numbers ∙ ap (λ (t : Slot). numbers (set ss at t)) c.take-row.ensures.gone)
    (c.let_go-self-inside.ensures.rows ∙ ap (λ (t : Slot). held (set ss at t)) c.take-row.ensures.gone)
    c.args.self.now c.self.view_is
