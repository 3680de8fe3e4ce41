use Rattle.std.proofs.Common.{◌<◌, ap, ◌∙◌, ◌∷◌, subst, sym}
use Rattle.side_channel.specs.SessionPieces.{to_come}
use Rattle.side_channel.specs.SessionBytes.{IsHeld, after_head}
use Rattle.side_channel.proofs.PieceLaws.{comes_as, fourth, one_less}
use Rattle.side_channel.proofs.pieces.take_byte.Goals as goal
use Rattle.side_channel.proofs.pieces.take_byte.Goals.{After-take_data}

pub returns-in-Three : goal.returns-in-Three
returns-in-Three c =
    let t = c.in-Three in
    comes_as _ _ (λ d more. ap (λ h. to_come d h (c.args.byte ∷ more)) t.is ∙ fourth t.command t.status t.high c.args.byte d more ∙ ap (λ n. after_head t.command t.status n d more) (sym c.from_be_bytes.ensures)) _ _ c.take_head.ensures

some : (c : After-take_data) → 0 < c.in-Data.left
some c = subst IsHeld c.in-Data.is c.requires.whole

pub returns-in-Data : goal.returns-in-Data
returns-in-Data c =
    let t = c.in-Data in
    comes_as _ _ (λ d more. ap (λ h. to_come d h (c.args.byte ∷ more)) t.is ∙ one_less t.command t.length t.left c.args.byte (some c) d more) _ _ c.take_data.ensures
