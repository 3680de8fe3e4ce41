-- The rows so far.
use Rattle.std.proofs.Common.{◌≡◌, take}
use Rattle.ipp_facts.specs.JobReports.{rows_text}
use Rattle.ipp_facts.proofs.shown_jobs.joined.Given as goal

abbrev pub invariant-loop-row : goal.invariant-loop-row
invariant-loop-row l = l.text.items ≡ rows_text (take l.row-index l.rows)
