use Rattle.std.proofs.Common.{None, refl, ap, sym, ◌∙◌}
use Rattle.std.specs.FinMap as finite
use Rattle.child_pipeline.proofs.SlotLaws.{removed, kept_released, own_alone, own_key, other_key}
use Rattle.child_pipeline.proofs.runner.Runner.release.Goals as goal

pub invariant_of-self : goal.invariant_of-self
invariant_of-self g c = kept_released c.self.inside.keys.entries c.remove.new.self.entries c.self.inside.slots c.free.new.slots c.args.job c.in-Some.key c.self.invariant (sym c.in-Some.ensures.value) c.in-Some.ensures.updates.0 c.free.ensures

pub returns-in-Some : goal.returns-in-Some
returns-in-Some g c =
    let es = c.self.inside.keys.entries in
    let fs = c.remove.new.self.entries in
    let own = sym c.in-Some.ensures.value in
    removed g.C.Children.number es fs c.self.inside.slots c.free.new.slots c.args.job (own_key es fs c.args.job None c.in-Some.ensures.updates.0) (other_key es fs c.args.job None c.in-Some.ensures.updates.0)
    (λ q h other is. c.free.ensures.others h (own_alone es c.self.inside.slots c.args.job c.in-Some.key c.self.invariant own q h other is))
    ∙ ap (λ m. finite.remove m c.args.job) c.self.view_is

pub returns-in_default : goal.returns-in_default
returns-in_default g c =
    let es = c.self.inside.keys.entries in
    let fs = c.remove.new.self.entries in
    removed g.C.Children.number es fs c.self.inside.slots c.self.inside.slots c.args.job (own_key es fs c.args.job None c.remove.ensures.updates.0) (other_key es fs c.args.job None c.remove.ensures.updates.0)
    (λ q h other is. refl)
    ∙ ap (λ m. finite.remove m c.args.job) c.self.view_is
