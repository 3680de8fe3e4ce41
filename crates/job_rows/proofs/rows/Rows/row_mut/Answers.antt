-- The slot of the number has the row, and the row that is written there is under the number.
use Rattle.std.proofs.Common.{◌≡◌, get_or, length-set, refl, sym, ap, subst, ◌∙◌, arith}
use Rattle.std.specs.Ordering.{nat_cmp}
use Rattle.job_rows.specs.declared.slot.Slot.TheVariants.{Held}
use Rattle.job_rows.specs.RowPositions.{IsPosition}
use Rattle.job_rows.specs.NumberedRows.{Listed, HasNumber, HasRow}
use Rattle.job_rows.specs.RowSlots.{number_of}
use Rattle.job_rows.proofs.Holding.{no_gap, has_row, slot_is, count_set, ends_set, order_set}
use Rattle.job_rows.proofs.Found.{taken_found, lent_is}
use Rattle.job_rows.proofs.rows.Rows.row_mut.Goals as goal

pub unreachable-requires : goal.unreachable-requires
unreachable-requires c =
    no_gap c.self.inside.slots.items c.self.invariant.order c.args.id c.in_default.field-0
    (subst (λ (v : Listed). HasNumber v.numbers c.args.id) (sym c.self.view_is) c.requires)
    (rw c.deref.ensures.value at c.in_default.ensures.absent)

pub row_mut-requires : goal.row_mut-requires
row_mut-requires c =
    has_row c.self.inside.slots.items c.self.invariant.order c.args.id c.in-Ok.at
    (subst (λ (v : Listed). HasNumber v.numbers c.args.id) (sym c.self.view_is) c.requires)
    c.index_mut.result.now c.index_mut.ensures.value
    (rw c.deref.ensures.value at c.in-Ok.ensures.found)

pub invariant_of-self-lent : goal.invariant_of-self-lent
invariant_of-self-lent c w =
    let ss = c.self.inside.slots.items in
    let at = c.in-Ok.at in
    let s = c.index_mut.result.now in
    let row = c.row_mut.result.now in
    let place : IsPosition nat_cmp number_of ss c.args.id at = rw c.deref.ensures.value at c.in-Ok.ensures.found in
    let is : get_or ss at s ≡ Held (number_of s) row = slot_is ss at s row c.index_mut.ensures.value c.row_mut.ensures.value in
    record {
      order = order_set ss c.self.invariant.order c.args.id at s (Held (number_of s) w) place (ap number_of (sym c.index_mut.ensures.value));
      last = ends_set ss at (number_of s) w place.in_range c.self.invariant.last;
      count = c.self.invariant.count ∙ sym (count_set (number_of s) row ss at s w place.in_range is);
      half = omega (arith, c.self.invariant.half, length-set ss at (Held (number_of s) w));
    }

pub returns : goal.returns
returns c =
    let ss = c.self.inside.slots.items in
    let at = c.in-Ok.at in
    let s = c.index_mut.result.now in
    let row = c.row_mut.result.now in
    let place : IsPosition nat_cmp number_of ss c.args.id at = rw c.deref.ensures.value at c.in-Ok.ensures.found in (
      (refl, λ w. lent_is c.self.inside c.self.invariant c.args.id at place s row c.index_mut.ensures.value c.row_mut.ensures.value w c.args.self.now c.self.view_is),
      record { lends = tt; found = subst (λ (v : Listed). HasRow v c.args.id row) c.self.view_is (taken_found c.self.inside c.self.invariant c.args.id at place s row c.index_mut.ensures.value c.row_mut.ensures.value) },
    )
