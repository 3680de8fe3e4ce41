use Rattle.std.proofs.Common.{ap, sym, ◌∙◌}
use Rattle.std.specs.Option.{option_map, option_copied}
use Rattle.std.specs.FinMap as finite
use Rattle.child_pipeline.specs.RunnerFields.{slot_at}
use Rattle.child_pipeline.specs.StageSlots.{numbered}
use Rattle.child_pipeline.proofs.SlotLaws.{get_slots, shown}
use Rattle.child_pipeline.proofs.runner.Runner.slot.Goals as goal

pub returns-in_err-key : goal.returns-in_err-key
returns-in_err-key g c =
    ap (λ r. option_map (numbered g.C.Children.number) (option_copied r)) c.from_residual.ensures
    ∙ ap (option_map (slot_at g.C.Children.number c.self.inside.slots)) c.in_err-key.ensures.value
    ∙ sym (get_slots g.C.Children.number c.self.inside.keys.entries c.self.inside.slots c.args.job)
    ∙ ap (λ m. finite.get m c.args.job) c.self.view_is

pub returns : goal.returns
returns g c =
    ap (option_map (numbered g.C.Children.number)) c.get-2.ensures
    ∙ shown g.C.Children.number c.self.inside.slots c.in_ok-key.key.now (c.self.invariant.there c.args.job c.in_ok-key.key.now (sym c.in_ok-key.ensures.value))
    ∙ ap (option_map (slot_at g.C.Children.number c.self.inside.slots)) c.in_ok-key.ensures.value
    ∙ sym (get_slots g.C.Children.number c.self.inside.keys.entries c.self.inside.slots c.args.job)
    ∙ ap (λ m. finite.get m c.args.job) c.self.view_is
