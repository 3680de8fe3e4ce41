use Rattle.std.proofs.Common.{◌≡◌, ap, sym, ◌∙◌, subst}
use Rattle.stderr_lines.specs.PendingEffects.{Takes}
use Rattle.stderr_lines.specs.Tallies.{begun, joined}
use Rattle.stderr_lines.proofs.LineLaws.{is, takes_joined}
use Rattle.stderr_lines.proofs.lines.Lines.feed.Goals as goal

pub returns-clause-ok : goal.returns-clause-ok
returns-clause-ok c =
    let piece = c.args.piece.now in
    let line = c.self.inside.line.items in
    let t = c.self.inside.tally in
    let new = c.take_piece.new.line.items in
    let u = c.take_piece.new.tally in
    let l : c.in_ok-line.line.items ≡ line = c.in_ok-line.ensures.items ∙ c.deref.ensures.value in
    let h : Takes (is line (begun t)) piece (is new u) =
    subst (λ v. Takes (is v (begun t)) piece (is new u)) l (subst (λ v. Takes (is c.in_ok-line.line.items v) piece (is new u)) c.begun-tally.ensures c.in_ok-take_piece.ensures.takes) in
    let j : c.join.new.self ≡ joined t u = c.in_ok-join.ensures.ok in
    subst (λ p. Takes p piece (is new c.join.new.self)) c.self.view_is (subst (λ v. Takes (is line t) piece (is new v)) (sym j) (takes_joined line new t u piece h))
