-- The entry of a job is replaced by another one.
use Rattle.std.proofs.Common.{◌≡◌, inl, inr, refl, ◌∙◌}
use Rattle.std.proofs.Math.Logic.{⊎_elim}
use Rattle.std.specs.List.{Contains}
use Rattle.queue_sched.proofs.index.Index.replace.Goals as goal

pub insert-requires-clause-absent : goal.insert-requires-clause-absent
insert-requires-clause-absent c = λ e there same.
    let was = (c.remove.ensures.items e).0 there in
    was.1 (c.requires.only e was.0 (same ∙ c.requires.own))

pub returns-then-has_turn_of-clause-there : goal.returns-then-has_turn_of-clause-there
returns-then-has_turn_of-clause-there c = (c.put_in_place.ensures.items c.args.to).1 (inr refl)

pub returns-else-has_turn_of-clause-items : goal.returns-else-has_turn_of-clause-items
returns-else-has_turn_of-clause-items c = λ e. (
  λ there. ⊎_elim (λ (old : Contains c.remove.new.self.items e). inl ((c.remove.ensures.items e).0 old)) (λ (is : e ≡ c.args.to). inr is) ((c.insert.ensures.items e).0 there),
  λ either. (c.insert.ensures.items e).1 (⊎_elim (λ (old : Contains c.args.self.now.items e × ¬ (e ≡ c.args.from)). inl ((c.remove.ensures.items e).1 old)) (λ (is : e ≡ c.args.to). inr is) either),
)
