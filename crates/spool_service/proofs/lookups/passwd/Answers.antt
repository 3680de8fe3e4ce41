-- No call after the creation of the command sets a variable.
use Rattle.std.proofs.Common.{◌∙◌}
use Rattle.spool_service.proofs.lookups.passwd.Goals as goal

pub returns-clause-variables : goal.returns-clause-variables
returns-clause-variables c name =
    c.in_ok-push_word-2.ensures.env.1 name ∙ c.in_ok-push_word.ensures.env.1 name ∙ c.in_ok-command.ensures.variables name
