use Rattle.std.proofs.Common.{ap, sym, ◌∙◌, arith}
use Rattle.mime_rules.specs.TestArguments.{text_from, bare, is_closing}
use Rattle.mime_rules.specs.RuleFields.{with_bytes}
use Rattle.mime_rules.proofs.ReadLaws.{with_bytes_append, blank_counts, closing_behind}
use Rattle.mime_rules.proofs.arguments.push_blanks.Goals as goal

pub loop-b-preserved : goal.loop-b-preserved
loop-b-preserved c =
    let blank = sym c.is_blank.ensures.value ∙ c.if-not-is_blank.false in
    let counts = sym (ap is_closing c.in-Some.ensures.cases.0 ∙ closing_behind c.in-Some.b.now c.in-Some.behind.now blank) ∙ c.loop-b.invariant.counts in
    record {
      same =
          ap (λ v. with_bytes v (text_from bare c.in-Some.behind.now)) c.in_ok-push.ensures.items
          ∙ with_bytes_append c.loop-b.text.items c.in-Some.b.now (text_from bare c.in-Some.behind.now)
          ∙ sym (ap (λ l. with_bytes c.loop-b.text.items (text_from bare l)) c.in-Some.ensures.cases.0 ∙ ap (with_bytes c.loop-b.text.items) (blank_counts c.in-Some.b.now c.in-Some.behind.now blank counts))
          ∙ c.loop-b.invariant.same;
      shorter = omega (arith, c.in-Some.ensures.cases.1, c.loop-b.invariant.shorter);
      counts = counts;
    }
