use Rattle.std.proofs.Common.{rules, ap₂, ◌∙◌}
use Rattle.std.proofs.lemmas.Result.{IfOk-weaker}
use Rattle.clap.specs.Words.{with_rule}
use Rattle.spool_admin.proofs.queue_words.set_command.Goals as goal

pub returns : goal.returns
returns c = IfOk-weaker c.arg-5.result _ _ (λ command added. added.shape (search rules)
    ∙ ap₂ with_rule (c.in_ok-arg-4.ensures.shape (search rules)
    ∙ ap₂ with_rule (c.in_ok-arg-3.ensures.shape (search rules)
    ∙ ap₂ with_rule (c.in_ok-arg-2.ensures.shape (search rules)
    ∙ ap₂ with_rule (c.in_ok-arg.ensures.shape (search rules)
    ∙ ap₂ with_rule c.in_ok-command.ensures c.text_option.ensures.rule) c.text_option-2.ensures.rule) c.text_option-3.ensures.rule)
    c.number_option.ensures.rule) c.number_option-2.ensures.rule) c.arg-5.ensures
