use Rattle.std.proofs.Common.{◌≡◌, ◌≢◌, ℕ, Some, None, refl, ap, sym, subst, ◌∙◌}
use Rattle.std.specs.Option.{IsSome}
use Rattle.std.specs.FinMap as finite
use Rattle.slab.specs.Slab.{get, Updates}
use Rattle.child_pipeline.specs.StageSlots.{numbered}
use Rattle.child_pipeline.specs.RunnerFields.{key_in}
use Rattle.child_pipeline.proofs.SlotLaws.{has_slot, no_key, still_kept, inserted, own_key, other_key, vacant_alone}
use Rattle.child_pipeline.proofs.runner.Runner.insert.Goals as goal

pub exchange-requires : goal.exchange-requires
exchange-requires g c =
    has_slot g.C.Children.number c.self.inside.keys.entries c.self.inside.slots c.args.self.now c.self.view_is c.args.job
    ∙ sym c.contains_key.ensures
    ∙ c.if-contains_key.true

pub invariant_of-self-in-Ok : goal.invariant_of-self-in-Ok
invariant_of-self-in-Ok g c =
    let es = c.self.inside.keys.entries in
    let fs = c.insert.new.self.entries in
    let s = c.self.inside.slots in
    let s' = c.insert_reserved.new.self in
    let j = c.args.job in
    let k = c.vacant_key-key.result in
    let same : (h : ℕ) → get c.reserve.new.self h ≡ get s h = λ h. ap (λ x. get x h) c.in_ok-reserve.ensures.rest_kept in
    let vacant : get s k ≡ None = sym (same k) ∙ c.vacant_key-key.ensures.vacant in
    let updates : Updates c.reserve.new.self s' k (Some c.args.slot) = subst (λ n. Updates c.reserve.new.self s' n (Some c.args.slot)) (c.insert_reserved.ensures.key ∙ sym c.vacant_key-key.ensures.value) c.insert_reserved.ensures.updates in
    let own = own_key es fs j (Some k) c.in-Ok.ensures.updates.0 in
    let others = other_key es fs j (Some k) c.in-Ok.ensures.updates.0 in
    let new : key_in es j ≡ None = no_key es j (sym c.contains_key.ensures ∙ c.if-contains_key.false) in
    still_kept es fs s s' j k c.self.invariant new own (subst IsSome (sym updates.changed) refl) others
    (λ q h other is. vacant_alone es s k c.self.invariant vacant q h is) (λ h other. updates.others h other ∙ same h)

pub returns-in-Ok-clause-ok : goal.returns-in-Ok-clause-ok
returns-in-Ok-clause-ok g c =
    let es = c.self.inside.keys.entries in
    let fs = c.insert.new.self.entries in
    let s = c.self.inside.slots in
    let s' = c.insert_reserved.new.self in
    let j = c.args.job in
    let k = c.vacant_key-key.result in
    let same : (h : ℕ) → get c.reserve.new.self h ≡ get s h = λ h. ap (λ x. get x h) c.in_ok-reserve.ensures.rest_kept in
    let vacant : get s k ≡ None = sym (same k) ∙ c.vacant_key-key.ensures.vacant in
    let updates : Updates c.reserve.new.self s' k (Some c.args.slot) = subst (λ n. Updates c.reserve.new.self s' n (Some c.args.slot)) (c.insert_reserved.ensures.key ∙ sym c.vacant_key-key.ensures.value) c.insert_reserved.ensures.updates in
    let own = own_key es fs j (Some k) c.in-Ok.ensures.updates.0 in
    let others = other_key es fs j (Some k) c.in-Ok.ensures.updates.0 in
    inserted g.C.Children.number es fs s s' j k c.args.slot own updates.changed others
    (λ q h other is. updates.others h (vacant_alone es s k c.self.invariant vacant q h is) ∙ same h)
    ∙ ap (λ m. finite.insert m j (numbered g.C.Children.number c.args.slot)) c.self.view_is
