use Rattle.std.proofs.Common.{ap, sym, ◌∙◌, ◌∷◌}
use Rattle.mime_rules.specs.TestArguments.{text_from, bare}
use Rattle.mime_rules.specs.RuleFields.{with_bytes}
use Rattle.mime_rules.proofs.ReadLaws.{with_bytes_append, blank_dropped, blanks_dropped, blank_counts, grown_from}
use Rattle.mime_rules.proofs.arguments.blank_run.Goals as goal

pub returns-then-is_closing-clause-grown : goal.returns-then-is_closing-clause-grown
returns-then-is_closing-clause-grown c =
    let closing = sym c.is_closing.ensures ∙ c.if-is_closing.true in
    ap (with_bytes c.args.text.now.items) (blank_dropped c.args.first c.args.behind.now c.requires closing ∙ blanks_dropped c.args.behind.now closing ∙ ap (text_from bare) (sym c.after_blanks.ensures.value))

pub returns-clause-grown : goal.returns-clause-grown
returns-clause-grown c =
    let counts = sym c.is_closing.ensures ∙ c.if-is_closing.false in
    grown_from c.push_blanks.result (λ rest. text_from bare rest.now) c.args.text.now.items c.push.new.self.items c.push_blanks.new.text.items (text_from bare (c.args.first ∷ c.args.behind.now)) (text_from bare c.args.behind.now)
    (ap (with_bytes c.args.text.now.items) (blank_counts c.args.first c.args.behind.now c.requires counts)
    ∙ sym (ap (λ v. with_bytes v (text_from bare c.args.behind.now)) c.in_ok-push.ensures.items ∙ with_bytes_append c.args.text.now.items c.args.first (text_from bare c.args.behind.now)))
    c.push_blanks.ensures.grown
