use Rattle.std.proofs.Common.{◌+◌, take, get_or, sym, subst, ◌∷◌, []}
use Rattle.std.proofs.lemmas.List.{take_more, take_all}
use Rattle.stderr_lines.specs.PendingEffects.{Takes}
use Rattle.stderr_lines.proofs.LineLaws.{is, takes_none, takes_more}
use Rattle.stderr_lines.proofs.lines.take_piece.Goals as goal

pub loop-b-init : goal.loop-b-init
loop-b-init c = record { held = c.requires; takes = takes_none (is c.args.line.now.items c.args.tally.now) }

pub loop-b-preserved : goal.loop-b-preserved
loop-b-preserved c =
    let piece = c.args.piece.now in
    let i = c.loop-b.b-index in
    let p = is c.args.line.now.items c.args.tally.now in
    let q = is c.loop-b.line.items c.loop-b.tally in
    let r = is c.take_byte.new.line.items c.take_byte.new.tally in
    record {
      held = c.in_ok-take_byte.ensures.held;
      takes = subst (λ l. Takes p l r) (sym (take_more piece i 0 c.loop-b-test.true)) (takes_more p q r (take i piece) (get_or piece i 0 ∷ []) c.loop-b.invariant.takes c.in_ok-take_byte.ensures.takes);
    }

pub returns-clause-takes : goal.returns-clause-takes
returns-clause-takes c =
    let p = is c.args.line.now.items c.args.tally.now in
    let q = is c.loop-b.line.items c.loop-b.tally in
    subst (λ l. Takes p l q) (take_all c.loop-b.b-index c.args.piece.now c.loop-b-test.false) c.loop-b.invariant.takes
