use Rattle.std.proofs.Common.{ap, sym, ◌∙◌, arith}
use Rattle.mime_rules.specs.TestArguments.{text_from, hex, pair_at}
use Rattle.mime_rules.specs.RuleFields.{with_bytes}
use Rattle.mime_rules.proofs.ReadLaws.{with_bytes_append, with_bytes_wrong, hex_empty, hex_ends, hex_more, hex_rest, pair_fault}
use Rattle.mime_rules.proofs.arguments.hex_run.Goals as goal

pub returns-in-None-clause-grown : goal.returns-in-None-clause-grown
returns-in-None-clause-grown c = sym c.pairs.invariant.same ∙ ap (with_bytes c.pairs.text.items) (hex_empty c.pairs.rest.now c.in-None.ensures.cases) ∙ with_bytes_wrong c.pairs.text.items _

pub returns-then-b-eq62-clause-grown : goal.returns-then-b-eq62-clause-grown
returns-then-b-eq62-clause-grown c = sym c.pairs.invariant.same ∙ ap (with_bytes c.pairs.text.items) (ap (text_from hex) c.in-Some.ensures.cases.0 ∙ hex_ends c.in-Some.b.now c.in-Some.behind.now c.if-b-eq62.true)

pub returns-in-Err-clause-grown : goal.returns-in-Err-clause-grown
returns-in-Err-clause-grown c =
    pair_fault c.in-Err.stop (pair_at c.in-Some.b.now c.in-Some.behind.now) c.pairs.text.items c.args.text.now.items (text_from hex c.args.line.now) c.in-Err.ensures.value
    (sym (ap (λ l. with_bytes c.pairs.text.items (text_from hex l)) c.in-Some.ensures.cases.0 ∙ ap (with_bytes c.pairs.text.items) (hex_more c.in-Some.b.now c.in-Some.behind.now c.if-b-eq62.false)) ∙ c.pairs.invariant.same)

pub pairs-preserved : goal.pairs-preserved
pairs-preserved c = record {
  same =
      ap (λ v. with_bytes v (text_from hex c.in-Ok.after.now)) c.in_ok-push-in-Ok.ensures.items
      ∙ with_bytes_append c.pairs.text.items c.in-Ok.byte (text_from hex c.in-Ok.after.now)
      ∙ sym (ap (λ l. with_bytes c.pairs.text.items (text_from hex l)) c.in-Some.ensures.cases.0
      ∙ ap (with_bytes c.pairs.text.items) (hex_more c.in-Some.b.now c.in-Some.behind.now c.if-b-eq62.false)
      ∙ ap (λ p. with_bytes c.pairs.text.items (hex_rest p)) c.in-Ok.ensures.value)
      ∙ c.pairs.invariant.same;
  shorter = omega (arith, c.in-Some.ensures.cases.1, c.in-Ok.ensures.bound, c.pairs.invariant.shorter);
}
