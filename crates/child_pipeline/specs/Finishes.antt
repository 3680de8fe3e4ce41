-- The finish of a child as it is stored, and the event of its end.
use Rattle.std.specs.Prelude.{ℕ, nat_lt, cond, List, [], length, take, Option, None, Some}
use Rattle.spool_types.specs.declared.effect.Exit.TheVariants.{NoStart, Lost}
use Rattle.spool_types.specs.declared.event.StageEnd.{StageEnd}
use Rattle.spool_types.specs.Limits.{longest_document}
use Rattle.stderr_lines.specs.Reports.{report_of}
use Rattle.child_pipeline.specs.declared.order.Finish.{Finish}

-- The finish of a child that could not be started.
abbrev pub no_start : Finish
no_start = record { exit = NoStart; output = []; errors = [] }

-- The finish of a child whose end is unknown.
abbrev pub lost : Finish
lost = record { exit = Lost; output = []; errors = [] }

-- A child with more output than a document may have is Lost. Its output is released, and its standard error stays.
abbrev pub bounded : Finish → Finish
bounded f = cond (nat_lt longest_document (length f.output)) (record { exit = Lost; output = []; errors = f.errors }) f

-- A finish as it is stored.
abbrev pub kept : Option Finish → Finish
kept None = lost
kept (Some f) = bounded f

-- The number of bytes of standard error that are read.
abbrev pub most_errors : ℕ
most_errors = 1048576

abbrev pub heard : List ℕ → List ℕ
heard errors = take most_errors errors

-- The event of the end of a stage, with the effects of its child's standard error.
abbrev pub end_of : ℕ → ℕ → ℕ → Finish → StageEnd
end_of j attempt stage f = record {
  job = j;
  attempt = attempt;
  stage = stage;
  exit = f.exit;
  dropped = (report_of (heard f.errors)).dropped;
  effects = (report_of (heard f.errors)).effects;
}
