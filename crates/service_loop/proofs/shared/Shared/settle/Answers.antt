-- A settle is one call.
use Rattle.std.proofs.Common.{ap, not, ◌∙◌}
use Rattle.service_loop.proofs.CallLaws.{within_settle}
use Rattle.service_loop.proofs.shared.Shared.settle.Goals as goal

pub returns-clause-calls : goal.returns-clause-calls
returns-clause-calls g c = within_settle g.D.Disk.device _ _ _ c.settle-durable.ensures.mime c.settle-durable.ensures.place c.settle-durable.ensures.settles

pub returns-clause-durable : goal.returns-clause-durable
returns-clause-durable g c = λ works.
    let alive = c.settle-durable.ensures.lives ∙ ap not works in
    (alive, c.settle-durable.ensures.settles.spool.settled alive)
