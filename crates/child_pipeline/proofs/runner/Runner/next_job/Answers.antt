use Rattle.std.proofs.Common.{subst}
use Rattle.std.specs.Ordering.{nat_cmp}
use Rattle.std.specs.BTreeMap.Range.{IsRangeOf}
use Rattle.std.specs.declared.ops.Bound.TheVariants.{Unbounded}
use Rattle.child_pipeline.specs.StageSlots.{bound_behind}
use Rattle.child_pipeline.proofs.NextLaws.{none_behind, first_behind}
use Rattle.child_pipeline.proofs.SlotLaws.{has_slot}
use Rattle.child_pipeline.proofs.runner.Runner.next_job.Goals as goal

pub returns-in-Some : goal.returns-in-Some
returns-in-Some g c =
    let entries = c.self.inside.keys in
    first_behind entries c.args.self.now c.args.behind (has_slot g.C.Children.number entries.entries c.self.inside.slots c.args.self.now c.self.view_is)
    (c.in-Some.job.now, c.in-Some.field-0-1.now) c.next.new.self
    (subst (λ r. IsRangeOf nat_cmp (bound_behind c.args.behind) Unbounded entries r) c.in-Some.ensures.steps
    (subst (λ b. IsRangeOf nat_cmp b Unbounded entries c.range.result) c.start_behind-start.ensures (c.range.ensures.in_range tt)))

pub returns-in-None : goal.returns-in-None
returns-in-None g c =
    let entries = c.self.inside.keys in
    none_behind entries c.args.self.now c.args.behind (has_slot g.C.Children.number entries.entries c.self.inside.slots c.args.self.now c.self.view_is)
    (subst (λ r. IsRangeOf nat_cmp (bound_behind c.args.behind) Unbounded entries r) c.in-None.ensures.steps.0
    (subst (λ b. IsRangeOf nat_cmp b Unbounded entries c.range.result) c.start_behind-start.ensures (c.range.ensures.in_range tt)))
