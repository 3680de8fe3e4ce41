use Rattle.std.proofs.Common.{◌≡◌, ◌∙◌, ◌++◌, ◌∷◌, [], List, None, map, refl, sym, subst, ap, arith}
use Rattle.std.specs.Borrow.{Bor}
use Rattle.std.specs.List.{flat_map}
use Rattle.std.proofs.lemmas.Grind.{flat_map-append}
use Rattle.std.proofs.lemmas.Iterator.Consumers.{YieldsList-from_first, YieldsList-end}
use Rattle.std.proofs.lemmas.List.{append-nil, map_push}
use Rattle.std.proofs.lemmas.List.Concat.{flat_map-cons}
use Rattle.spool_types.specs.State.{job_of}
use Rattle.spool_types.specs.declared.rows.JobRow.{JobRow}
use Rattle.spool_types.specs.declared.listing.Row.{Row}
use Rattle.spool_core.specs.Checkpointing.{blank_rows}
use Rattle.spool_core.specs.Measuring.{IsSumMore}
use Rattle.spool_core.proofs.FillLaws.{sum_then}
use Rattle.spool_core.proofs.spool.measuring.jobs_len.Goals as goal

-- The rows of one more job.
next_rows : (xs : List (Bor JobRow)) (x : Bor JobRow) → flat_map blank_rows (map job_of (map (λ row. row.now) (xs ++ x ∷ []))) ≡ flat_map blank_rows (map job_of (map (λ row. row.now) xs)) ++ blank_rows (job_of x.now)
next_rows xs x =
    ap (λ (rs : List JobRow). flat_map blank_rows (map job_of rs)) (map_push (λ row. row.now) xs x)
    ∙ ap (flat_map blank_rows) (map_push job_of (map (λ row. row.now) xs) x.now)
    ∙ flat_map-append blank_rows (map job_of (map (λ row. row.now) xs)) (job_of x.now ∷ [])
    ∙ ap (λ (rs : List Row). flat_map blank_rows (map job_of (map (λ row. row.now) xs)) ++ rs) (flat_map-cons blank_rows (job_of x.now) [] ∙ append-nil (blank_rows (job_of x.now)))

pub loop-row-preserved : goal.loop-row-preserved
loop-row-preserved c =
    let rs = flat_map blank_rows (map job_of (map (λ row. row.now) c.loop-row.yielded)) in
    record {
      sum = subst (λ (rows : List Row). IsSumMore rows c.args.before c.in_ok-sum.sum) (sym (next_rows c.loop-row.yielded c.in-Some.row))
          (sum_then rs (blank_rows (job_of c.in-Some.row.now)) c.args.before c.loop-row.sum c.in_ok-sum.sum c.loop-row.invariant.sum c.in_ok-sum.ensures.sum);
      spare = omega (arith, c.loop-row.invariant.spare, c.job_len.ensures.spare);
    }

pub returns-clause-sum : goal.returns-clause-sum
returns-clause-sum c =
    let end = YieldsList-end (YieldsList-from_first (λ x. x.now) (λ r. r) c.args.jobs.now.items cc) c.loop-row.yielded c.loop-row.row-iterator c.loop-row.yielded_by None c.next.new.self refl c.in-None.ensures.steps in
    subst (λ (rs : List JobRow). IsSumMore (flat_map blank_rows (map job_of rs)) c.args.before c.loop-row.sum) end.0 c.loop-row.invariant.sum
