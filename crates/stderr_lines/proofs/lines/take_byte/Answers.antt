use Rattle.std.proofs.Common.{[], ◌∷◌}
use Rattle.std.proofs.lemmas.Result.{on_ok_weaker}
use Rattle.stderr_lines.proofs.LineLaws.{held_none, held_part, one_none, takes_lf, takes_part}
use Rattle.stderr_lines.proofs.lines.take_byte.Goals as goal

pub returns-then-b-eq-LINE_FEED-clause-held : goal.returns-then-b-eq-LINE_FEED-clause-held
returns-then-b-eq-LINE_FEED-clause-held c = on_ok_weaker c.end_line.result (λ h. held_none c.end_line.new.line.items h.0) c.end_line.ensures

pub returns-then-b-eq-LINE_FEED-clause-takes : goal.returns-then-b-eq-LINE_FEED-clause-takes
returns-then-b-eq-LINE_FEED-clause-takes c =
    on_ok_weaker c.end_line.result (λ h. takes_lf c.args.line.now.items c.args.tally.now c.end_line.new.tally c.end_line.new.line.items c.args.b c.if-b-eq-LINE_FEED.true c.requires.whole h.0 h.1) c.end_line.ensures

pub returns-else-b-eq-LINE_FEED-clause-held : goal.returns-else-b-eq-LINE_FEED-clause-held
returns-else-b-eq-LINE_FEED-clause-held c =
    on_ok_weaker c.hold_piece.result (λ h. held_part c.args.line.now.items (c.args.b ∷ []) c.requires (one_none c.args.b c.if-b-eq-LINE_FEED.false) c.hold_piece.new.line.items h) c.hold_piece.ensures.ok

pub returns-else-b-eq-LINE_FEED-clause-takes : goal.returns-else-b-eq-LINE_FEED-clause-takes
returns-else-b-eq-LINE_FEED-clause-takes c =
    on_ok_weaker c.hold_piece.result (λ h. takes_part c.args.line.now.items (c.args.b ∷ []) c.requires (one_none c.args.b c.if-b-eq-LINE_FEED.false) c.args.tally.now c.hold_piece.new.line.items h) c.hold_piece.ensures.ok
