-- The jobs before it in the index of the queue.
use Rattle.spool_types.specs.State.{queue_at}
use Rattle.wait_causes.proofs.CountLaws.{ahead_at}
use Rattle.wait_causes.proofs.reply.ahead.Goals as goal

pub returns-in-Some : goal.returns-in-Some
returns-in-Some c =
    ahead_at c.args.table.now.state c.args.name.now c.args.job c.count_before.result (queue_at c.args.table.now.state c.args.name.now) c.in-Some.ensures.absent.1
    (record { entries = c.in-Some.index.now.items; index = c.in-Some.ensures.each; order = c.count_before.ensures.order; count_is = c.count_before.ensures.count })
