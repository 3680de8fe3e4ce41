use Rattle.std.proofs.Common.{ap, sym, ◌∙◌, ◌∷◌, map, arith}
use Rattle.mime_rules.specs.Tests.{some_end}
use Rattle.mime_rules.specs.Patterns.{matching}
use Rattle.mime_rules.specs.RuleFields.{piece_of, rest_matches}
use Rattle.mime_rules.proofs.PatternLaws.{run_leads, step_leads, step_value}
use Rattle.mime_rules.proofs.pattern.fit.Goals as goal

pub returns-then-is_run-clause-leads : goal.returns-then-is_run-clause-leads
returns-then-is_run-clause-leads c = λ e.
    let here = c.in-Some.ensures.cases.0 in
    ap (λ l. rest_matches (map piece_of l) c.loop-piece.rest.now) here
    ∙ run_leads (piece_of c.in-Some.piece.now) (map piece_of c.in-Some.behind.now) c.loop-piece.rest.now (sym c.is_run.ensures ∙ c.if-is_run.true)
    (sym (ap (λ l. some_end (matching (map piece_of l)) c.loop-piece.rest.now) here) ∙ c.loop-piece.invariant.leads e)

pub loop-piece-preserved : goal.loop-piece-preserved
loop-piece-preserved c =
    let here = c.in-Some.ensures.cases.0 in
    let bytes = c.in-Some-split_first.ensures.cases.0 in
    let p = piece_of c.in-Some.piece.now in
    let ps = map piece_of c.in-Some.behind.now in
    let single = sym c.is_run.ensures ∙ c.if-is_run.false in
    record {
      same =
          sym (ap (λ l. matching (map piece_of l) c.loop-piece.rest.now) here
          ∙ ap (matching (p ∷ ps)) bytes
          ∙ step_value p ps c.in-Some-split_first.b.now c.in-Some-split_first.after.now single (sym c.passes.ensures ∙ c.if-not-passes.false))
          ∙ c.loop-piece.invariant.same;
      leads = λ e.
          step_leads p ps c.in-Some-split_first.b.now c.in-Some-split_first.after.now single
          (sym (ap (λ l. some_end (matching (map piece_of l)) c.loop-piece.rest.now) here ∙ ap (some_end (matching (p ∷ ps))) bytes) ∙ c.loop-piece.invariant.leads e);
      shorter = omega (arith, c.in-Some.ensures.cases.1, c.loop-piece.invariant.shorter);
    }
