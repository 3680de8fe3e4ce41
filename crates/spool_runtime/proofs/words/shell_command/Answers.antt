use Rattle.std.proofs.Common.{rules, ap₂, ◌∙◌}
use Rattle.std.proofs.lemmas.Result.{IfOk-weaker}
use Rattle.clap.specs.Words.{with_rule}
use Rattle.spool_runtime.proofs.words.shell_command.Goals as goal

pub returns : goal.returns
returns c = IfOk-weaker c.arg-2.result _ _ (λ command added. added.shape (search rules)
    ∙ ap₂ with_rule (c.in_ok-arg.ensures.shape (search rules) ∙ ap₂ with_rule c.in_ok-command.ensures c.flag_option.ensures.rule) c.flag_option-2.ensures.rule) c.arg-2.ensures
