use Rattle.std.proofs.Common.{rules, true, ap, ap₂, codes, ◌≡◌, ◌∙◌}
use Rattle.std.proofs.lemmas.Result.{IfOk-weaker}
use Rattle.clap.specs.Words.{new_app, with_rule}
use Rattle.clap.specs.Simple.{app_of, app_of_fields, on_top}
use Rattle.spool_runtime.specs.ProgramArguments.{versioned_app}
use Rattle.spool_admin.proofs.words.admin_command.Goals as goal

pub returns : goal.returns
returns c =
    let about_is : app_of c.about.result ≡ new_app (codes "spool_admin") = ap app_of_fields c.about.ensures ∙ c.new.ensures.app in
    let version_is : app_of c.version.result ≡ versioned_app (codes "spool_admin") =
    ap app_of_fields c.version.ensures ∙ ap (on_top (λ s. record s { has_version = true })) about_is in
    IfOk-weaker c.arg-3.result _ _ (λ command added. added.shape (search rules)
    ∙ ap₂ with_rule (c.in_ok-arg-2.ensures.shape (search rules) ∙ ap₂ with_rule (c.in_ok-arg.ensures.shape (search rules)
    ∙ ap₂ with_rule version_is c.word.ensures.rule) c.word-2.ensures.rule) c.more_words.ensures.rule) c.arg-3.ensures
