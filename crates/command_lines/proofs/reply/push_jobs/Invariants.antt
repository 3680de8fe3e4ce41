-- The lines of the jobs so far were appended.
use Rattle.std.proofs.Common.{◌≡◌, ◌++◌, map}
use Rattle.spool_types.specs.State.{job_of}
use Rattle.command_lines.specs.Replies.{jobs_lines}
use Rattle.command_lines.proofs.reply.push_jobs.Given as goal

abbrev pub invariant-loop-row : goal.invariant-loop-row
invariant-loop-row l = l.text.items ≡ l.initial.text.items ++ jobs_lines l.now (map job_of (map (λ row. row.now) l.yielded))
