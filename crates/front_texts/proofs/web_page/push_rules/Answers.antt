use Rattle.command_lines.proofs.Pieces.{next_piece}
use Rattle.front_texts.specs.Page.{queue_rule}
use Rattle.front_texts.proofs.web_page.push_rules.Goals as goal

pub loop-queue-preserved : goal.loop-queue-preserved
loop-queue-preserved c = next_piece queue_rule c.args.queues.now c.loop-queue.queue-index c.queue-item.result c.args.page.now.items c.loop-queue.page.items c.push_rule.new.page.items c.queue-item.is c.loop-queue-test.true c.loop-queue.invariant c.in_ok-push_rule.ensures
