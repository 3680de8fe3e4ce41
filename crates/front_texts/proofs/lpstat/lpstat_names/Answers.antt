use Rattle.command_lines.proofs.Pieces.{next_piece}
use Rattle.std.proofs.Common.{[]}
use Rattle.front_texts.specs.Lpstat.{name_line}
use Rattle.front_texts.proofs.lpstat.lpstat_names.Goals as goal

pub loop-queue-preserved : goal.loop-queue-preserved
loop-queue-preserved c = next_piece name_line c.args.queues.now c.loop-queue.queue-index c.queue-item.result [] c.loop-queue.text.items c.push_name.new.text.items c.queue-item.is c.loop-queue-test.true c.loop-queue.invariant c.in_ok-push_name.ensures
