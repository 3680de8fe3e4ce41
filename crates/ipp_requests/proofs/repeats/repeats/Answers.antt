use Rattle.std.proofs.Common.{ℕ, ◌+◌, List, ◌∷◌, drop, ap, sym, ◌∙◌}
use Rattle.std.specs.List.{list_any}
use Rattle.ipp_requests.specs.IppChecks.{is_same, repeats}
use Rattle.ipp_requests.proofs.RepeatLaws.{goes_on, is_new, one_more}
use Rattle.ipp_requests.proofs.repeats.repeats.Goals as goal

pub loop-attribute-preserved : goal.loop-attribute-preserved
loop-attribute-preserved c = (
  c.as_str.result.now ∷ c.loop-attribute.invariant.0,
  goes_on c.args.attributes.now c.loop-attribute.attribute-index c.attribute-item.result c.loop-attribute.invariant.0 _ c.loop-attribute-test.true c.attribute-item.is
      (c.loop-attribute.invariant.2 c.as_str.result ∙ ap (λ (name : List ℕ). list_any (is_same name) c.loop-attribute.invariant.0) c.as_str.ensures.value)
      (is_new _ (sym c.in_ok-insert.ensures.added ∙ c.if-not-branch.false)) c.loop-attribute.invariant.1
      ∙ ap (λ (name : List ℕ). repeats (name ∷ c.loop-attribute.invariant.0) (drop (c.loop-attribute.attribute-index + 1) c.args.attributes.now)) (sym c.as_str.ensures.value),
  λ q. one_more c.as_str.result.now c.loop-attribute.invariant.0 q.now _ _ (c.in_ok-insert.ensures.updates.0 q) (c.loop-attribute.invariant.2 q),
)
