use Rattle.command_lines.proofs.Pieces.{next_piece}
use Rattle.front_texts.specs.Lpstat.{blank_part}
use Rattle.front_texts.proofs.lpstat.push_each.Goals as goal

pub loop-reason-preserved : goal.loop-reason-preserved
loop-reason-preserved c = next_piece blank_part c.args.reasons.now c.loop-reason.reason-index c.reason-item.result c.args.text.now.items c.loop-reason.text.items c.push_reason.new.text.items c.reason-item.is c.loop-reason-test.true c.loop-reason.invariant c.in_ok-push_reason.ensures
