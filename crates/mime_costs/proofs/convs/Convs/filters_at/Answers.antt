use Rattle.std.proofs.Common.{◌≡◌, ◌+◌, length, ap, sym, ◌∙◌, ◌∷◌, ◌++◌, [], true, false, arith}
use Rattle.std.proofs.lemmas.List.{length_push, append-nil}
use Rattle.mime_costs.specs.Conversions.{same as same_text}
use Rattle.std.specs.Prelude.{not}
use Rattle.mime_costs.specs.LeastWalk.{no_filter}
use Rattle.mime_costs.proofs.WalkLaws.{filters_more}
use Rattle.mime_costs.proofs.convs.Convs.filters_at.Goals as goal
use Rattle.mime_costs.proofs.convs.Convs.filters_at.Goals.{then-ne+in_ok-clone+in_ok-push, else-ne}

pub loop-line-preserved : goal.loop-line-preserved
loop-line-preserved c =
    let i = c.loop-line.line-index in
    let names = c.loop-line.filters.items in
    let name = c.filter_name-filter.result.now in
    let few = c.loop-line.invariant.few in
    let more = filters_more c.args.self.now c.args.lines.now i name c.loop-line-test.true c.filter_name-filter.ensures.value in
    let told = ap (λ text. not (same_text text no_filter)) (sym c.as_str.ensures.value) ∙ sym c.ne.ensures in
    elim c.if-ne.branch [
      | then-ne+in_ok-clone+in_ok-push w ↦
          let pushed : c.if-ne.filters.items ≡ names ++ name ∷ [] = ap (λ f. f.items) w.filters-is ∙ w.in_ok-push.ensures.items ∙ ap (λ n. names ++ n ∷ []) w.in_ok-clone.ensures.cases in
          let count : length c.if-ne.filters.items ≡ length names + 1 = ap length pushed ∙ length_push names name in
          record {
            few = omega arith;
            same = λ walk there lined. pushed ∙ more walk there lined true names (told ∙ w.if-ne.true) (c.loop-line.invariant.same walk there lined);
          }
      | else-ne w ↦
          let kept : c.if-ne.filters.items ≡ names = ap (λ f. f.items) w.filters-is in
          let count : length c.if-ne.filters.items ≡ length names = ap length kept in
          record {
            few = omega arith;
            same = λ walk there lined. kept ∙ sym (append-nil names) ∙ more walk there lined false names (told ∙ w.if-ne.false) (c.loop-line.invariant.same walk there lined);
          }
    ]
