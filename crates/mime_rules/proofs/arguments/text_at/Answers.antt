use Rattle.std.proofs.Common.{ap, sym, ◌∙◌}
use Rattle.mime_rules.specs.TestArguments.{text_from, bare}
use Rattle.mime_rules.specs.RuleFields.{with_bytes}
use Rattle.mime_rules.proofs.ReadLaws.{with_bytes_wrong, with_bytes_read, text_empty, text_close}
use Rattle.mime_rules.proofs.arguments.text_at.Goals as goal

pub returns-in-None-clause-value : goal.returns-in-None-clause-value
returns-in-None-clause-value c = sym c.runs.invariant.same ∙ ap (with_bytes c.runs.text.items) (text_empty c.runs.rest.now c.in-None.ensures.cases) ∙ with_bytes_wrong c.runs.text.items _

pub returns-then-b-eq-CLOSE-clause-value : goal.returns-then-b-eq-CLOSE-clause-value
returns-then-b-eq-CLOSE-clause-value c =
    sym c.runs.invariant.same
    ∙ ap (with_bytes c.runs.text.items) (ap (text_from bare) c.in-Some.ensures.cases.0 ∙ text_close c.in-Some.b.now c.in-Some.behind.now c.if-b-eq-CLOSE.true)
    ∙ with_bytes_read c.runs.text.items c.in-Some.behind.now
