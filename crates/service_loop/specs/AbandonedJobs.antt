-- The incoming job that is canceled because its client has disconnected.
use Rattle.std.specs.Prelude.{ℕ, List, Option, None, Some}
use Rattle.spool_types.specs.State.{State}
use Rattle.service_texts.specs.LeftJobs.{left_until, still_incoming}
use Rattle.service_texts.specs.declared.left_jobs.LeftJob.{LeftJob}

-- The first job that is still incoming, and to which nothing was sent after a moment, if there is such a moment.
abbrev pub abandoned_in : Option ℕ → State → List LeftJob → Option ℕ
abandoned_in None s left = None
abandoned_in (Some until) s left = left_until until (still_incoming s left)
