-- The lines of the jobs so far were appended.
use Rattle.std.proofs.Common.{◌≡◌, ◌++◌, map}
use Rattle.spool_types.specs.State.{job_of}
use Rattle.service_texts.specs.Shown.{shown_lines}
use Rattle.service_texts.proofs.job_texts.push_shown_jobs.Given as goal

abbrev pub invariant-loop-row : goal.invariant-loop-row
invariant-loop-row l = l.text.items ≡ l.initial.text.items ++ shown_lines l.client l.now (map job_of (map (λ row. row.now) l.yielded))
