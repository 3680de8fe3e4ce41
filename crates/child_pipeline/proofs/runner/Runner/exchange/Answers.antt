use Rattle.std.proofs.Common.{◌≡◌, false, true, Some, refl, ap, sym, subst, ◌∙◌}
use Rattle.std.specs.Option.{is_some, IsSome}
use Rattle.std.specs.FinMap as finite
use Rattle.slab.proofs.SlabLemmas.{Updates-with_value}
use Rattle.slab.specs.Slab.{with_value}
use Rattle.child_pipeline.specs.StageSlots.{numbered}
use Rattle.child_pipeline.proofs.SlotLaws.{no_slot, slot_there, inserted, own_alone, kept_exchanged}
use Rattle.child_pipeline.proofs.runner.Runner.exchange.Goals as goal

-- The job has a slot.
pub unreachable-requires : goal.unreachable-requires
unreachable-requires g c = no_slot g.C.Children.number c.self.inside.keys.entries c.self.inside.slots c.args.self.now c.args.job c.self.view_is (sym c.in_default.ensures.value) c.requires

pub unreachable-requires-in-None : goal.unreachable-requires-in-None
unreachable-requires-in-None g c =
    let both : false ≡ true = ap is_some c.in-None.ensures.value ∙ c.self.invariant.there c.args.job c.in-Some.key.now (sym c.in-Some.ensures.value) in
    absurd (cc)

pub returns-clause-old : goal.returns-clause-old
returns-clause-old g c =
    slot_there g.C.Children.number c.self.inside.keys.entries c.self.inside.slots c.args.self.now c.args.job c.in-Some.key.now c.replace.result c.self.view_is (sym c.in-Some.ensures.value)
    (sym c.in-Some-get_mut.ensures.value ∙ ap Some (sym c.replace.ensures.value))

pub returns-clause-new : goal.returns-clause-new
returns-clause-new g c =
    let es = c.self.inside.keys.entries in
    let s = c.self.inside.slots in
    let k = c.in-Some.key.now in
    let own = sym c.in-Some.ensures.value in
    let updates = Updates-with_value s k c.replace.new.dest (c.self.invariant.there c.args.job k own) in
    inserted g.C.Children.number es es s (with_value s k c.replace.new.dest) c.args.job k c.args.slot own (updates.changed ∙ ap Some c.replace.ensures.after) (λ q other. refl)
    (λ q h other is. updates.others h (own_alone es s c.args.job k c.self.invariant own q h other is))
    ∙ ap (λ m. finite.insert m c.args.job (numbered g.C.Children.number c.args.slot)) c.self.view_is

pub invariant_of-self : goal.invariant_of-self
invariant_of-self g c =
    let s = c.self.inside.slots in
    let k = c.in-Some.key.now in
    let had = c.self.invariant.there c.args.job k (sym c.in-Some.ensures.value) in
    let updates = Updates-with_value s k c.replace.new.dest had in
    kept_exchanged c.self.inside.keys.entries s (with_value s k c.replace.new.dest) k c.self.invariant had (subst IsSome (sym updates.changed) refl) updates.others
