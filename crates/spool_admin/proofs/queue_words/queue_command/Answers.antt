use Rattle.std.proofs.Common.{rules, ap, ap₂, ◌≡◌, ◌∙◌}
use Rattle.std.proofs.lemmas.Result.{IfOk-weaker}
use Rattle.clap.specs.Words.{new_app, with_rule}
use Rattle.clap.specs.Simple.{app_of, app_of_fields}
use Rattle.spool_admin.proofs.queue_words.queue_command.Goals as goal

pub returns : goal.returns
returns c =
    let about_is : app_of c.about.result ≡ new_app c.args.name.now = ap app_of_fields c.about.ensures ∙ c.new.ensures.app in
    let named_is : app_of c.in_ok-bin_name.field-0 ≡ new_app c.args.name.now = ap app_of_fields c.in_ok-bin_name.ensures.0 ∙ about_is in
    IfOk-weaker c.arg-2.result _ _ (λ command added. added.shape (search rules)
    ∙ ap₂ with_rule (c.in_ok-arg.ensures.shape (search rules) ∙ ap₂ with_rule named_is c.word.ensures.rule) c.word-2.ensures.rule) c.arg-2.ensures
