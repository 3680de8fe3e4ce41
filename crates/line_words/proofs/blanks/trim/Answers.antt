use Rattle.std.proofs.Common.{ap, sym, ◌∙◌}
use Rattle.line_words.specs.Blanks.{without_end}
use Rattle.line_words.proofs.BlankLaws.{blank_end, other_end}
use Rattle.line_words.proofs.blanks.trim.Goals as goal

pub loop-b-preserved : goal.loop-b-preserved
loop-b-preserved c =
    sym (ap without_end c.in-Some.ensures.cases.0 ∙ blank_end c.in-Some.before.now c.in-Some.b.now (sym c.is_blank.ensures.value ∙ c.if-not-is_blank.false)) ∙ c.loop-b.invariant

pub returns-then-not-is_blank : goal.returns-then-not-is_blank
returns-then-not-is_blank c = record {
  value =
      c.in-Some.ensures.cases.0
      ∙ sym (other_end c.in-Some.before.now c.in-Some.b.now (sym c.is_blank.ensures.value ∙ c.if-not-is_blank.true))
      ∙ sym (ap without_end c.in-Some.ensures.cases.0)
      ∙ c.loop-b.invariant;
}
