-- Counting the rows of jobs.
use Rattle.std.proofs.Common.{◌≡◌, ◌+◌, ℕ, List, [], ◌∷◌, Bool, map, refl, cond, fold}
use Rattle.std.specs.Prelude.{count_by}
use Rattle.spool_types.specs.State.{Job, job_of}
use Rattle.spool_types.specs.declared.rows.JobRow.{JobRow}

counted_on : (p : Job → Bool) (n : ℕ) (rows : List JobRow)
    → fold (λ (m : ℕ) (row : JobRow). m + cond (p row.job) 1 0) n rows ≡ fold (λ (m : ℕ) (job : Job). m + cond (p job) 1 0) n (map job_of rows)
counted_on p n [] = refl
counted_on p n (r ∷ rows) = counted_on p (n + cond (p r.job) 1 0) rows

-- The number of rows is that of their jobs.
pub count_jobs_of : (p : Job → Bool) (rows : List JobRow) → count_by (λ (row : JobRow). p row.job) rows ≡ count_by p (map job_of rows)
count_jobs_of p rows = counted_on p 0 rows
