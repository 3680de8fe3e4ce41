use Rattle.std.proofs.Common.{subst}
use Rattle.stderr_lines.specs.PendingEffects.{Takes}
use Rattle.stderr_lines.proofs.LineLaws.{is, held_part, takes_part}
use Rattle.stderr_lines.proofs.lines.Lines.hold.Goals as goal

pub invariant_of-self-2 : goal.invariant_of-self-2
invariant_of-self-2 c = held_part c.self.inside.line.items c.args.piece.now c.self.invariant c.requires c.hold_piece.new.line.items c.in_ok-hold_piece.ensures.ok

pub returns-clause-ok : goal.returns-clause-ok
returns-clause-ok c =
    let new = c.hold_piece.new.line.items in
    subst (λ p. Takes p c.args.piece.now (is new c.self.inside.tally)) c.self.view_is
    (takes_part c.self.inside.line.items c.args.piece.now c.self.invariant c.requires c.self.inside.tally new c.in_ok-hold_piece.ensures.ok)
