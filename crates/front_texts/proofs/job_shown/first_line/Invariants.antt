-- No line feed so far.
use Rattle.std.proofs.Common.{◌≡◌, ◌++◌, take, drop}
use Rattle.front_texts.specs.JobPage.{line_here, behind_line}
use Rattle.front_texts.proofs.job_shown.first_line.Given as goal

abbrev pub invariant-loop-i : goal.invariant-loop-i
invariant-loop-i l = record { line : take l.i l.text ++ line_here (drop l.i l.text) ≡ line_here l.text; rest : behind_line (drop l.i l.text) ≡ behind_line l.text }
