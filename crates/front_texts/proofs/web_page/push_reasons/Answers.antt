use Rattle.command_lines.proofs.Pieces.{next_piece}
use Rattle.front_texts.specs.Page.{reason_part}
use Rattle.front_texts.proofs.web_page.push_reasons.Goals as goal

pub loop-reason-preserved : goal.loop-reason-preserved
loop-reason-preserved c = next_piece reason_part c.args.reasons.now c.loop-reason.reason-index c.reason-item.result c.args.page.now.items c.loop-reason.page.items c.push_reason.new.page.items c.reason-item.is c.loop-reason-test.true c.loop-reason.invariant c.in_ok-push_reason.ensures
