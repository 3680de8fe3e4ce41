-- Each line so far is one for the terminal.
use Rattle.front_texts.specs.Cells.{AreLines}
use Rattle.front_texts.proofs.queue_fields.queue_page.Given as goal

abbrev pub invariant-loop-row : goal.invariant-loop-row
invariant-loop-row l = AreLines l.width l.lines.items
