use Rattle.std.proofs.Common.{◌≡◌, ◌+◌, ℕ, true, false, inl, inr, refl, sym, subst, ◌∙◌, arith}
use Rattle.std.proofs.lemmas.List.{get_or_default}
use Rattle.print_rounds.specs.Turns.{IsTurnAfter}
use Rattle.print_rounds.proofs.QueueTurns.{one_more}
use Rattle.print_rounds.proofs.start_room.turn_in.Goals as goal
use Rattle.print_rounds.proofs.start_room.turn_in.Goals.{then-not-blocked-at, else-not-blocked-at}

pub loop-at-init : goal.loop-at-init
loop-at-init c = inl (λ i low high. absurd (omega (arith, low, high)), refl)

pub loop-at-preserved : goal.loop-at-preserved
loop-at-preserved c = elim c.if-not-blocked-at.branch [
  | then-not-blocked-at w ↦ inr (c.loop-at.at, (omega arith, omega arith, get_or_default c.args.blocked.now c.loop-at.at true false (omega arith) ∙ w.if-not-blocked-at.true, λ i low high. absurd (omega (arith, low, high))), w.turn-is)
  | else-not-blocked-at w ↦ subst (IsTurnAfter c.args.blocked.now c.args.from (c.loop-at.at + 1) c.args.before) (sym w.turn-is)
      (one_more c.args.blocked.now c.args.from c.loop-at.at c.args.before c.loop-at.turn (get_or_default c.args.blocked.now c.loop-at.at true false (omega arith) ∙ w.if-not-blocked-at.false) c.loop-at.invariant)
]

pub returns : goal.returns
returns c =
    let end : c.loop-at.at ≡ c.args.to = omega arith in
    subst (λ (n : ℕ). IsTurnAfter c.args.blocked.now c.args.from n c.args.before c.loop-at.turn) end c.loop-at.invariant
