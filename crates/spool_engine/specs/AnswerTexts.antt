-- The text of an answer, over the table after the command.
use Rattle.std.specs.Prelude.{ℕ, List, [], ◌++◌}
use Rattle.std.specs.FinMap as finite
use Rattle.spool_types.specs.State.{State}
use Rattle.command_lines.specs.Replies.{answer_line, jobs_lines, queues_lines}
use Rattle.command_lines.specs.declared.reply.Answer.{Answer}
use Rattle.command_lines.specs.declared.reply.Answer.TheVariants.{Jobs, Queues}

-- The rows of a listing.
abbrev pub answer_rows : State → Answer → List ℕ
answer_rows s (Jobs count) = jobs_lines s.moment (finite.values s.jobs)
answer_rows s (Queues count) = queues_lines (finite.values s.jobs) (finite.values s.queues)
answer_rows s answer = []

-- The rows, and the line of the answer.
abbrev pub answer_text : State → Answer → List ℕ
answer_text s answer = answer_rows s answer ++ answer_line answer
