use Rattle.std.proofs.Common.{ap, sym, ◌∙◌, arith}
use Rattle.mime_rules.specs.TestArguments.{text_from, quoted}
use Rattle.mime_rules.specs.RuleFields.{with_bytes}
use Rattle.mime_rules.proofs.ReadLaws.{with_bytes_append, with_bytes_wrong, quote_empty, quote_more}
use Rattle.mime_rules.proofs.arguments.quoted_run.Goals as goal

pub returns-in-None-clause-grown : goal.returns-in-None-clause-grown
returns-in-None-clause-grown c = sym c.bytes.invariant.same ∙ ap (with_bytes c.bytes.text.items) (quote_empty c.args.quote c.bytes.rest.now c.in-None.ensures.cases) ∙ with_bytes_wrong c.bytes.text.items _

pub bytes-preserved : goal.bytes-preserved
bytes-preserved c = record {
  same =
      ap (λ v. with_bytes v (text_from (quoted c.args.quote) c.in-Some.behind.now)) c.in_ok-push-in-Some.ensures.items
      ∙ with_bytes_append c.bytes.text.items c.in-Some.b.now (text_from (quoted c.args.quote) c.in-Some.behind.now)
      ∙ sym (ap (λ l. with_bytes c.bytes.text.items (text_from (quoted c.args.quote) l)) c.in-Some.ensures.cases.0 ∙ ap (with_bytes c.bytes.text.items) (quote_more c.args.quote c.in-Some.b.now c.in-Some.behind.now c.if-b-quote.false))
      ∙ c.bytes.invariant.same;
  shorter = omega (arith, c.in-Some.ensures.cases.1, c.bytes.invariant.shorter);
}
