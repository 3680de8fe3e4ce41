-- Jobs that a row can represent.
use Rattle.std.specs.Prelude.{◌≤◌, List, length, map}
use Rattle.std.specs.Borrow.{Bor}
use Rattle.spool_types.specs.Limits.{longest_document}
use Rattle.spool_types.specs.State.{Job, job_of}
use Rattle.spool_types.specs.declared.rows.JobRow.{JobRow}
use Rattle.event_codec.specs.RowSpelling.{IsPhaseOf}

-- Its size is one that a job may have, and its phase fits its row, if it has no more filters than a job may have.
pub record IsTellable (r : Job) : Type 0 where
  pub size : r.size ≤ longest_document
  pub phase : length r.filters ≤ 15 → IsPhaseOf r r.phase

-- The jobs of borrowed rows.
abbrev pub jobs_in : List (Bor JobRow) → List Job
jobs_in rows = map (λ row. job_of row.now) rows
