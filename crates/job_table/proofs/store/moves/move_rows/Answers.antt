-- One more document.
use Rattle.std.proofs.Common.{◌≡◌, ◌<◌, ◌≤◌, ℕ, ◌+◌, length, get_or, set, IsSome, Some, sym, ap, subst, ◌∙◌, arith}
use Rattle.std.specs.Prelude.{slice_get}
use Rattle.std.proofs.lemmas.List.{length-set, get_or_default}
use Rattle.spool_types.specs.declared.rows.JobRow.{JobRow}
use Rattle.job_rows.specs.NumberedRows.{Listed, HasNumber, position_in}
use Rattle.job_table.specs.TableRows.{HasNew, IsMoved}
use Rattle.job_table.proofs.Lanes.{none_left, set_done, set_rest}
use Rattle.job_table.proofs.Numbered.{as_many, none_reached, reached_row, within_reach}
use Rattle.job_table.proofs.Relocated.{moved_as, ids_apart}
use Rattle.job_table.proofs.store.moves.move_rows.Goals as goal

pub row_mut-requires : goal.row_mut-requires
row_mut-requires c =
    let at = c.loop-next.invariant.0 in
    let before = c.loop-next.invariant.1 in
    let here : slice_get c.args.rows.now.numbers at ≡ Some c.in-Some.job = sym before.next ∙ c.in-Some.is in
    subst (λ (rows : Listed). HasNumber rows.numbers c.in-Some.job) (sym before.same)
    (within_reach c.args.rows.now c.requires.own c.requires.sorted at c.in-Some.job here)

pub move_row-requires : goal.move_row-requires
move_row-requires c =
    let first = c.args.rows.now in
    let at = c.loop-next.invariant.0 in
    let before = c.loop-next.invariant.1 in
    let x = c.row_mut.result.now in
    let here : slice_get first.numbers at ≡ Some c.in-Some.job = sym before.next ∙ c.in-Some.is in
    let reached = reached_row first c.requires.own c.requires.sorted c.loop-next.rows before.same at c.in-Some.job here x c.row_mut.ensures.found in
    let same : x ≡ get_or first.items at x = sym reached.is ∙ before.rest at x (omega arith) in
    subst (HasNew c.loop-next.noted.places) (sym same)
    (λ lives. subst IsSome (sym (before.left at x (omega arith) reached.within)) (c.requires.there at x reached.within lives))

pub loop-next-preserved : goal.loop-next-preserved
loop-next-preserved c =
    let first = c.args.rows.now in
    let noted = c.args.noted in
    let at = c.loop-next.invariant.0 in
    let before = c.loop-next.invariant.1 in
    let now = c.loop-next.rows.items in
    let x = c.row_mut.result.now in
    let new = c.move_row.new.row in
    let job = c.in-Some.job in
    let here : slice_get first.numbers at ≡ Some job = sym before.next ∙ c.in-Some.is in
    let reached = reached_row first c.requires.own c.requires.sorted c.loop-next.rows before.same at job here x c.row_mut.ensures.found in
    let within : at < length now = omega (arith, reached.within, before.count) in
    let same : x ≡ get_or first.items at x = sym reached.is ∙ before.rest at x (omega arith) in
    let moved : IsMoved noted (get_or first.items at x) new =
    moved_as c.loop-next.noted noted (get_or first.items at x) new (before.left at x (omega arith) reached.within) (before.room at x (omega arith) reached.within)
    (subst (λ (r : JobRow). IsMoved c.loop-next.noted r new) same c.move_row.ensures.moved) in
    let others : (i : ℕ) (d : JobRow) → at + 1 ≤ i → i < length first.items → ¬ ((get_or first.items i d).job.id ≡ x.job.id) =
    λ i d le lt one. ids_apart first.items c.requires.sorted at i d x (omega (arith, le)) lt (one ∙ ap (λ (r : JobRow). r.job.id) same) in (
      at + 1,
      record {
        next =
            c.next_above-next.ensures.behind at (ap (λ (rows : Listed). slice_get rows.numbers at) before.same ∙ here ∙ ap Some (sym c.get.ensures.value))
            ∙ ap (λ (rows : Listed). slice_get rows.numbers (at + 1)) before.same;
        same = ap (λ (rows : Listed). record rows { items = set now (position_in c.loop-next.rows.numbers job) new }) before.same;
        count = rw reached.place (length-set now at new ∙ before.count);
        done = rw reached.place (set_done (IsMoved noted) first.items now at new within before.done
            (λ d. subst (λ (r : JobRow). IsMoved noted r new) (get_or_default first.items at x d reached.within) moved));
        rest = rw reached.place (set_rest (IsMoved noted) first.items now at new within before.rest);
        left = λ i d le lt.
            c.move_row.ensures.others (get_or first.items i d).job.id (others i d (omega arith) lt)
            ∙ before.left i d (omega arith) lt;
        room = λ i d le lt.
            c.move_row.ensures.room (get_or first.items i d).job.id (others i d (omega arith) lt)
            ∙ before.room i d (omega arith) lt;
      },
    )

pub returns-clause-each : goal.returns-clause-each
returns-clause-each c = λ i d lt.
    let before = c.loop-next.invariant.1 in
    let past = none_reached c.args.rows.now.numbers c.loop-next.invariant.0 (sym before.next ∙ none_left c.loop-next.next c.in_default.not-Some) in
    before.done i d (omega (arith, lt, past, before.count, as_many c.args.rows.now c.requires.own c.requires.sorted))
