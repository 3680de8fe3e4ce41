-- The text of the rows so far.
use Rattle.std.proofs.Common.{◌≡◌, take}
use Rattle.spool_front.specs.ReplyOutcomes.{rows_text}
use Rattle.spool_front.proofs.client.Answer.text.Given as goal

abbrev pub invariant-loop-row : goal.invariant-loop-row
invariant-loop-row l = l.text.items ≡ rows_text (take l.row-index l.self.rows.items)
