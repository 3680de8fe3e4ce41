use Rattle.std.proofs.Common.{rules, ap, ap₂, ◌∙◌}
use Rattle.std.proofs.lemmas.Result.{IfOk-weaker}
use Rattle.clap.specs.Words.{with_rule}
use Rattle.spool_service.specs.ChildArguments.{with_children}
use Rattle.spool_service.specs.ServiceArguments.{with_bounds, with_roles, with_socket}
use Rattle.spool_service.proofs.words.service_command.Goals as goal

pub returns : goal.returns
returns c = IfOk-weaker c.arg-2.result _ _ (λ command added. added.shape (search rules)
    ∙ ap₂ with_rule (c.in_ok-arg.ensures.shape (search rules)
    ∙ ap₂ with_rule (c.in_ok-command-5.ensures ∙ ap with_children (c.in_ok-command-4.ensures ∙ ap with_bounds (c.in_ok-command-3.ensures ∙ ap with_roles (c.in_ok-command-2.ensures
    ∙ ap with_socket c.in_ok-command.ensures)))) c.flag_option.ensures.rule)
    c.flag_option-2.ensures.rule) c.arg-2.ensures
