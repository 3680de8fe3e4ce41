use Rattle.std.proofs.Common.{ap, sym, ◌∙◌}
use Rattle.mime_rules.specs.TestArguments.{text_from, bare}
use Rattle.mime_rules.specs.RuleFields.{with_bytes}
use Rattle.mime_rules.proofs.ReadLaws.{with_bytes_append, plain_byte}
use Rattle.mime_rules.proofs.arguments.any_run.Goals as goal

pub returns-in_ok-push-clause-grown : goal.returns-in_ok-push-clause-grown
returns-in_ok-push-clause-grown c =
    ap (with_bytes c.args.text.now.items) (plain_byte c.args.first c.args.behind.now (sym c.is_blank.ensures.value ∙ c.if-is_blank.false) c.requires (sym c.is_quote.ensures ∙ c.if-is_quote.false) c.if-first-eq60.false)
    ∙ sym (ap (λ v. with_bytes v (text_from bare c.args.behind.now)) c.in_ok-push.ensures.items ∙ with_bytes_append c.args.text.now.items c.args.first (text_from bare c.args.behind.now))
