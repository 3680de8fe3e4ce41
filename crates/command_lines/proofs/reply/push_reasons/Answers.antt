use Rattle.std.proofs.Common.{◌≡◌, ℕ, List, [], ◌∷◌, ◌++◌, ap, ◌∙◌, append_assoc}
use Rattle.command_lines.proofs.Pieces.{next_piece}
use Rattle.command_lines.proofs.reply.push_reasons.Goals as goal

pub loop-reason-preserved : goal.loop-reason-preserved
loop-reason-preserved c =
    let before = c.loop-reason.text.items in
    let reason = c.reason-item.result in
    let bytes = c.as_bytes-in-loop-reason.result.now in
    let after = c.extend_from_slice-in-loop-reason.new.self.items in
    let added : after ≡ before ++ (44 ∷ reason) =
    c.in_ok-extend_from_slice-2.ensures.items
    ∙ ap (λ (l : List ℕ). l ++ bytes) c.in_ok-push.ensures.items
    ∙ append_assoc before (44 ∷ []) bytes
    ∙ ap (λ (l : List ℕ). before ++ (44 ∷ l)) (c.as_bytes-in-loop-reason.ensures.value ∙ c.as_str-in-loop-reason.ensures.value) in
    next_piece (λ (r : List ℕ). 44 ∷ r) _ c.loop-reason.reason-index reason c.extend_from_slice-2.new.self.items before after c.reason-item.is c.loop-reason-test.true c.loop-reason.invariant added
