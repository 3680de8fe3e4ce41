-- The reply to `find`.
use Rattle.std.specs.Prelude.{ℕ, List, Option, None, Some}
use Rattle.command_lines.specs.Replies.{created_line}
use Rattle.spool_types.specs.State.{State}
use Rattle.service_texts.specs.Shown.{no_job}
use Rattle.service_texts.specs.SubmissionTokens.{found}
use Rattle.service_texts.specs.declared.tokens.Tokens.{Tokens}

abbrev pub found_line : Option ℕ → List ℕ
found_line None = no_job
found_line (Some job) = created_line job

abbrev pub found_text : Tokens → State → List ℕ → List ℕ
found_text tokens s token = found_line (found s tokens token)
