-- One more slot at the end, with the row.
use Rattle.std.proofs.Common.{◌≡◌, ◌<◌, IsTrue, List, ◌∷◌, ◌++◌, [], length, map, sym, ap, subst, ◌∙◌, arith}
use Rattle.std.specs.Prelude.{All}
use Rattle.std.specs.FinMap as finite
use Rattle.std.specs.Ordering.{nat_cmp}
use Rattle.std.proofs.lemmas.List.{length_push}
use Rattle.job_rows.specs.declared.slot.Slot.{Slot}
use Rattle.job_rows.specs.declared.slot.Slot.TheVariants.{Held}
use Rattle.job_rows.specs.NumberedRows.{Listed}
use Rattle.job_rows.specs.RowSlots.{slot_entry, held, numbers, gone_count, EndsHeld}
use Rattle.job_rows.proofs.Ending.{held_append, numbers_append, count_append, sorted_push, ends_push}
use Rattle.job_rows.proofs.rows.Rows.push.Goals as goal

pub invariant_of-self : goal.invariant_of-self
invariant_of-self c =
    let ss = c.self.inside.slots.items in
    let row = c.args.row in
    let above = subst (λ (v : Listed). All (λ n. n < row.job.id) v.numbers) (sym c.self.view_is) c.requires.above in
    let items : c.push_reserved.new.self.items ≡ ss ++ Held row.job.id row ∷ [] = c.push_reserved.ensures.items ∙ ap (λ (s : Slot). ss ++ s ∷ []) c.of_row.ensures in
    record {
      order = subst (λ (ts : List Slot). IsTrue (finite.is_sorted nat_cmp (map slot_entry ts))) (sym items) (sorted_push ss row.job.id row c.self.invariant.order c.self.invariant.last above);
      last = subst EndsHeld (sym items) (ends_push ss row.job.id row);
      count = c.self.invariant.count ∙ more ss row.job.id row ∙ sym (ap gone_count items);
      half = omega (arith, c.self.invariant.half, length_push ss (Held row.job.id row), ap length items);
    }
  where
    more : (ss : List Slot) (n : _) (row : _) → gone_count ss ≡ gone_count (ss ++ Held n row ∷ [])
    more ss n row = omega (arith, count_append ss (Held n row ∷ []))

pub returns-clause-items : goal.returns-clause-items
returns-clause-items c =
    ap held (c.push_reserved.ensures.items ∙ ap (λ (s : Slot). c.self.inside.slots.items ++ s ∷ []) c.of_row.ensures)
    ∙ held_append c.self.inside.slots.items (Held c.args.row.job.id c.args.row ∷ [])
    ∙ ap (λ (v : Listed). v.items ++ c.args.row ∷ []) c.self.view_is

pub returns-clause-numbers : goal.returns-clause-numbers
returns-clause-numbers c =
    ap numbers (c.push_reserved.ensures.items ∙ ap (λ (s : Slot). c.self.inside.slots.items ++ s ∷ []) c.of_row.ensures)
    ∙ numbers_append c.self.inside.slots.items (Held c.args.row.job.id c.args.row ∷ [])
    ∙ ap (λ (v : Listed). v.numbers ++ c.args.row.job.id ∷ []) c.self.view_is
