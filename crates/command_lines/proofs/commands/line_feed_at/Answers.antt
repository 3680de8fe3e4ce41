use Rattle.std.proofs.Common.{get_or, take, ap, ◌∙◌}
use Rattle.std.proofs.lemmas.List.{take_more}
use Rattle.command_lines.specs.TextLines.{has_lf}
use Rattle.command_lines.proofs.LineLaws.{has_lf_none, no_lf}
use Rattle.command_lines.proofs.commands.line_feed_at.Goals as goal

pub loop-i-preserved : goal.loop-i-preserved
loop-i-preserved c =
    ap has_lf (take_more c.args.bytes.now c.loop-i.i 0 c.loop-i-test.true)
    ∙ has_lf_none (take c.loop-i.i c.args.bytes.now) _ c.loop-i.invariant (no_lf (get_or c.args.bytes.now c.loop-i.i 0) c.if-b-eq-LINE_FEED.false)
