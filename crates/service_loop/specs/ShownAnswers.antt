-- The text of an answer, as far as a client may see it: of others' jobs title and user are shown as empty texts, and of queues the message.
use Rattle.std.specs.Prelude.{ℕ, cond, List, ◌++◌}
use Rattle.std.specs.FinMap as finite
use Rattle.spool_types.specs.State.{State}
use Rattle.command_lines.specs.Replies.{answer_line}
use Rattle.command_lines.specs.declared.reply.Answer.{Answer}
use Rattle.command_lines.specs.declared.reply.Answer.TheVariants.{Jobs, Queues}
use Rattle.client_standing.specs.ClientStanding.{ClientStanding, sees_all}
use Rattle.queue_sayings.specs.QueueSayings.{shown_queue_lines}
use Rattle.service_texts.specs.Shown.{shown_lines}
use Rattle.spool_engine.specs.AnswerTexts.{answer_text}

-- The listing of the jobs shows titles and users, that of the queues messages. No other answer does.
abbrev pub answer_seen : ClientStanding → State → Answer → List ℕ
answer_seen c s (Jobs count) = shown_lines c s.moment (finite.values s.jobs) ++ answer_line (Jobs count)
answer_seen c s (Queues count) = shown_queue_lines c s (finite.values s.queues) ++ answer_line (Queues count)
answer_seen c s answer = answer_text s answer

-- A client that sees all is shown the engine's text.
abbrev pub shown_answer : ClientStanding → State → Answer → List ℕ
shown_answer c s answer = cond (sees_all c) (answer_text s answer) (answer_seen c s answer)
