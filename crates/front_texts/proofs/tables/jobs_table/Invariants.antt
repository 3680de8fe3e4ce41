-- Each line so far is one for the terminal.
use Rattle.std.proofs.Common.{◌≡◌, ◌+◌, vec_len}
use Rattle.front_texts.specs.Cells.{AreLines}
use Rattle.front_texts.proofs.tables.jobs_table.Given as goal

abbrev pub invariant-loop-job : goal.invariant-loop-job
invariant-loop-job l = record { fit : AreLines l.width l.lines.items; count : vec_len l.lines ≡ 1 + l.job-index }
