use Rattle.std.proofs.Common.{rules, refl, ap₂, ◌∙◌}
use Rattle.std.proofs.lemmas.Result.{IfOk-weaker}
use Rattle.clap.specs.Words.{with_rule}
use Rattle.spool_service.proofs.child_words.child_options.Goals as goal

pub returns : goal.returns
returns c = IfOk-weaker c.arg-5.result _ _ (λ more added. added.shape (search rules)
    ∙ ap₂ with_rule (c.in_ok-arg-4.ensures.shape (search rules) ∙ ap₂ with_rule (c.in_ok-arg-3.ensures.shape (search rules)
    ∙ ap₂ with_rule (c.in_ok-arg-2.ensures.shape (search rules) ∙ ap₂ with_rule (c.in_ok-arg.ensures.shape (search rules)
    ∙ ap₂ with_rule refl c.text_option.ensures.rule) c.number_option.ensures.rule) c.number_option-2.ensures.rule) c.number_option-3.ensures.rule)
    c.number_option-4.ensures.rule) c.arg-5.ensures
