use Rattle.std.proofs.Common.{[], sym, ap, ◌∙◌}
use Rattle.side_channel.specs.SessionPieces.{to_come}
use Rattle.side_channel.proofs.SessionLaws.{session-nothing}
use Rattle.side_channel.proofs.PieceLaws.{cut_here}
use Rattle.side_channel.proofs.pieces.Session.ending.Goals as goal

pub returns-in-Nothing : goal.returns-in-Nothing
returns-in-Nothing c = λ d. ap (λ h. to_come d h []) (sym c.self.view_is ∙ c.in-Nothing.is) ∙ session-nothing d

pub returns-in_default : goal.returns-in_default
returns-in_default c =
    λ d. ap (λ h. to_come d h []) (sym c.self.view_is) ∙ cut_here c.self.inside.held c.in_default.not-Nothing c.in_default.not-Over c.self.invariant d
