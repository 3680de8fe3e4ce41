-- The row at a position has the name at that position.
use Rattle.std.proofs.Common.{rules, ◌<◌, sym, subst}
use Rattle.std.specs.FinMap as finite
use Rattle.print_rounds.proofs.StartLaws.{name_at, queue_count}
use Rattle.print_rounds.proofs.starts.next_at.Goals as goal

pub bounds-queues-at : goal.bounds-queues-at
bounds-queues-at c = subst (λ n. c.args.at < n) (sym (queue_count c.queues.result.now (finite.keys c.args.table.now.state.queues) c.queues.ensures.names)) c.requires

pub returns-clause-next : goal.returns-clause-next
returns-clause-next c =
    (c.index-queues-at.result.name, name_at c.queues.result.now (finite.keys c.args.table.now.state.queues) c.queues.ensures.names c.args.at c.index-queues-at.result c.index-queues-at.is, search rules)
