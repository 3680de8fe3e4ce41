use Rattle.std.proofs.Common.{ap, sym, ◌∙◌}
use Rattle.mime_rules.specs.Patterns.{is_in}
use Rattle.mime_rules.proofs.PatternLaws.{member_none, member_some}
use Rattle.mime_rules.proofs.pattern.is_in.Goals as goal

pub loop-first-preserved-in-None : goal.loop-first-preserved-in-None
loop-first-preserved-in-None c =
    sym (ap (λ l. is_in l c.args.x) c.in-Some.ensures.cases.0 ∙ member_none c.in-Some.first.now c.in-Some.behind.now c.args.x c.in-None.ensures.value c.if-x-first.false) ∙ c.loop-first.invariant

pub loop-first-preserved : goal.loop-first-preserved
loop-first-preserved c =
    sym (ap (λ l. is_in l c.args.x) c.in-Some.ensures.cases.0 ∙ member_some c.in-Some.first.now c.in-Some-range_end.last c.in-Some.behind.now c.in-Some-range_end.further.now c.args.x c.in-Some-range_end.ensures.value (sym c.is_between.ensures ∙ c.if-is_between.false))
    ∙ c.loop-first.invariant
