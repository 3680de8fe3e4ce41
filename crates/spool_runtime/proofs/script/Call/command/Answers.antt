-- No call after `script_shell` sets a variable.
use Rattle.std.proofs.Common.{◌∙◌}
use Rattle.spool_runtime.proofs.script.Call.command.Goals as goal

pub returns-clause-variables : goal.returns-clause-variables
returns-clause-variables c name =
    c.in_ok-push_texts-2.ensures.env.1 name ∙ c.in_ok-push_program.ensures.env.1 name ∙ c.in_ok-push_own_variables.ensures.env.1 name
    ∙ c.in_ok-push_texts.ensures.env.1 name ∙ c.in_ok-push_limits.ensures.env.1 name ∙ c.in_ok-push_user.ensures.env.1 name
    ∙ c.in_ok-push_number.ensures.env.1 name ∙ c.in_ok-push_side.ensures.env.1 name ∙ c.in_ok-push_files.ensures.env.1 name ∙ c.in_ok-command.ensures.variables name
