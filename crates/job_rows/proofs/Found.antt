-- The row of a number with a slot, and the rows after it was changed or removed.
use Rattle.std.proofs.Common.{◌≡◌, ℕ, ◌-◌, List, get_or, set, Some, None, Option, vec_len, vec_capacity, sym, ap, subst, ◌∙◌}
use Rattle.std.specs.Prelude.{IfSome, option_copied}
use Rattle.std.specs.Borrow.{Bor}
use Rattle.std.specs.List.{remove}
use Rattle.std.specs.Ordering.{nat_cmp}
use Rattle.spool_types.specs.declared.rows.JobRow.{JobRow}
use Rattle.job_rows.specs.declared.slot.Slot.{Slot}
use Rattle.job_rows.specs.declared.slot.Slot.TheVariants.{Held, Gone}
use Rattle.job_rows.specs.declared.rows.Rows.TheInside.{Inside}
use Rattle.job_rows.specs.RowFields.{listed, IsKept}
use Rattle.job_rows.specs.RowPositions.{IsPosition}
use Rattle.job_rows.specs.NumberedRows.{Listed, HasRow, position_in, with_row, without_row}
use Rattle.job_rows.specs.RowSlots.{number_of, row_of, held, numbers}
use Rattle.job_rows.proofs.Holding.{seat, place_is, number_place, row_place, slot_is, held_set, numbers_set, held_gone, numbers_gone}

abbrev shown : List ℕ → List JobRow → ℕ → Listed
shown ns rs room = record { numbers = ns; items = rs; room = room }

module _ (a : Inside) (kept : IsKept a) (k i : ℕ) (place : IsPosition nat_cmp number_of a.slots.items k i) where
  found_row : (n : ℕ) (r : JobRow) (d : Slot) → get_or a.slots.items i d ≡ Held n r → HasRow (listed a) k r
  found_row n r d is = record {
    place = number_place a.slots.items kept.order k i place n r d is;
    is = row_place a.slots.items kept.order k i place n r d is r;
  }

  pub looked_found : (s : Slot) → s ≡ get_or a.slots.items i s → (o : Option (Bor JobRow)) → option_copied o ≡ row_of s → IfSome o (λ row. HasRow (listed a) k row.now)
  looked_found s is None read = tt
  looked_found (Held n r) is (Some b) read = let same : r ≡ b.now = cc in subst (HasRow (listed a) k) same (found_row n r (Held n r) (sym is))
  looked_found (Gone n) is (Some b) read = absurd (cc)

  module _ (s : Slot) (r : JobRow) (read : s ≡ get_or a.slots.items i s) (row : row_of s ≡ Some r) where
    is : get_or a.slots.items i s ≡ Held (number_of s) r
    is = slot_is a.slots.items i s r read row

    pub taken_found : HasRow (listed a) k r
    taken_found = found_row (number_of s) r s is

    seat_is : position_in (numbers a.slots.items) k ≡ seat a.slots.items i
    seat_is = place_is a.slots.items kept.order k i place (number_of s) r s is

    -- The row is replaced.
    pub lent_items : (w : JobRow) → held (set a.slots.items i (Held (number_of s) w)) ≡ set (held a.slots.items) (position_in (numbers a.slots.items) k) w
    lent_items w = held_set (number_of s) r a.slots.items i s w place.in_range is ∙ ap (λ p. set (held a.slots.items) p w) (sym seat_is)

    pub lent_numbers : (w : JobRow) → numbers (set a.slots.items i (Held (number_of s) w)) ≡ numbers a.slots.items
    lent_numbers w = numbers_set (number_of s) r a.slots.items i s w place.in_range is

    -- The row that is written there is under the number.
    pub lent_is : (w : JobRow) (v : Listed) → listed a ≡ v → record { numbers = numbers (set a.slots.items i (Held (number_of s) w)); items = held (set a.slots.items i (Held (number_of s) w)); room = vec_capacity a.slots - vec_len a.slots } ≡ with_row v k w
    lent_is w v seen =
        ap (λ (ns : List ℕ). shown ns (held (set a.slots.items i (Held (number_of s) w))) (vec_capacity a.slots - vec_len a.slots)) (lent_numbers w)
        ∙ ap (λ (rs : List JobRow). shown (numbers a.slots.items) rs (vec_capacity a.slots - vec_len a.slots)) (lent_items w)
        ∙ ap (λ (v : Listed). with_row v k w) seen

    -- The number is removed with its row.
    pub gone_is : (ss : List Slot) (room : ℕ) → numbers ss ≡ numbers (set a.slots.items i (Gone (number_of s))) → held ss ≡ held (set a.slots.items i (Gone (number_of s))) → (v : Listed) → listed a ≡ v → shown (numbers ss) (held ss) room ≡ record (without_row v k) { room = room }
    gone_is ss room own rows v seen =
        ap (λ (ns : List ℕ). shown ns (held ss) room) (own ∙ numbers_gone (number_of s) r a.slots.items i s (number_of s) place.in_range is ∙ ap (λ p. remove (numbers a.slots.items) p) (sym seat_is))
        ∙ ap (λ (rs : List JobRow). shown (remove (numbers a.slots.items) (position_in (numbers a.slots.items) k)) rs room) (rows ∙ held_gone (number_of s) r a.slots.items i s (number_of s) place.in_range is ∙ ap (λ p. remove (held a.slots.items) p) (sym seat_is))
        ∙ ap (λ (v : Listed). record (without_row v k) { room = room }) seen
