use Rattle.std.proofs.Common.{◌≡◌, ◌∙◌, ℕ, ◌+◌, ◌<◌, Bool, List, length, get_or, take, sym, ap, subst, arith}
use Rattle.std.specs.Borrow.{Bor}
use Rattle.std.specs.List.{filter}
use Rattle.std.proofs.Math.ListN.{get_or-map}
use Rattle.std.proofs.lemmas.List.{length-map}
use Rattle.spool_types.specs.State.{Job as JobOf, job_of}
use Rattle.spool_types.specs.declared.rows.JobRow.{JobRow}
use Rattle.split_rows.specs.Half.{takes}
use Rattle.split_rows.specs.Tellable.{IsTellable, jobs_in}
use Rattle.split_rows.proofs.Kept.{all_at, kept_next, left_out_next}
use Rattle.split_rows.proofs.rows.are_jobs_in.Goals as goal
use Rattle.split_rows.proofs.rows.are_jobs_in.Goals.{then-takes+else-at-part+in_ok-same+else-not-same, else-takes}

abbrev job_in : Bor JobRow → JobOf
job_in row = job_of row.now

-- The job of a row at its position.
in_place : (rows : List (Bor JobRow)) (i : ℕ) (row : Bor JobRow) → row ≡ get_or rows i row → get_or (jobs_in rows) i (job_in row) ≡ job_in row
in_place rows i row is = get_or-map job_in rows i row ∙ ap job_in (sym is)

as_long : (rows : List (Bor JobRow)) (i : ℕ) → i < length rows → i < length (jobs_in rows)
as_long rows i lt = omega (arith, lt, length-map rows job_in)

pub is_same_job-requires-clause-a : goal.is_same_job-requires-clause-a
is_same_job-requires-clause-a c =
    let rows = c.args.whole.now in
    subst IsTellable (in_place rows c.loop-row.row-index c.row-item.result c.row-item.is)
    (all_at IsTellable (jobs_in rows) c.loop-row.row-index (job_in c.row-item.result) (as_long rows c.loop-row.row-index c.loop-row-test.true) c.requires.whole)

pub is_same_job-requires-clause-b : goal.is_same_job-requires-clause-b
is_same_job-requires-clause-b c =
    let rows = c.args.part.now in
    let lt : c.loop-row.at < length rows = omega (arith, c.loop-row.invariant.within, c.if-at-part.false) in
    subst IsTellable (in_place rows c.loop-row.at c.index-part-at.result c.index-part-at.is)
    (all_at IsTellable (jobs_in rows) c.loop-row.at (job_in c.index-part-at.result) (as_long rows c.loop-row.at lt) c.requires.part)

pub loop-row-preserved : goal.loop-row-preserved
loop-row-preserved c =
    let whole = c.args.whole.now in
    let part = c.args.part.now in
    let row = c.row-item.result in
    let i = c.loop-row.row-index in
    let p : JobOf → Bool = λ r. takes c.args.half.named c.args.half.names.now r.queue in
    let own = sym (in_place whole i row c.row-item.is) in
    let long = as_long whole i c.loop-row-test.true in
    elim c.if-takes.branch [
      | then-takes+else-at-part+in_ok-same+else-not-same w ↦
          let lt : c.loop-row.at < length part = omega (arith, c.loop-row.invariant.within, w.if-at-part.false) in
          let is = w.in_ok-same.ensures w.if-not-same.false in
          record {
            within = omega (arith, w.at-is, lt);
            same = subst (λ (n : ℕ). take n (jobs_in part) ≡ filter p (take (i + 1) (jobs_in whole))) (sym w.at-is)
                (kept_next p (jobs_in whole) (jobs_in part) i c.loop-row.at (job_in row) long own c.loop-row.invariant.same (as_long part c.loop-row.at lt)
                (subst (λ (r : JobOf). get_or (jobs_in part) c.loop-row.at r ≡ r) is (in_place part c.loop-row.at w.index-part-at.result w.index-part-at.is))
                (sym c.takes.ensures ∙ w.if-takes.true));
          }
      | else-takes w ↦ record {
        within = omega (arith, w.at-is, c.loop-row.invariant.within);
        same = subst (λ (n : ℕ). take n (jobs_in part) ≡ filter p (take (i + 1) (jobs_in whole))) (sym w.at-is)
            (left_out_next p (jobs_in whole) (jobs_in part) i c.loop-row.at (job_in row) long own c.loop-row.invariant.same (sym c.takes.ensures ∙ w.if-takes.false));
      }
    ]
