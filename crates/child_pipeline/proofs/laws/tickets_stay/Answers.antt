use Rattle.child_pipeline.proofs.TicketLaws.{start_keeps, finish_keeps, look_keeps, release_keeps, quiet_put}
use Rattle.child_pipeline.proofs.laws.tickets_stay.Goals as goal

pub returns-clause-starts : goal.returns-clause-starts
returns-clause-starts c = λ slots j t order b n told has rests start. start_keeps slots j t order has rests b n told start

pub returns-clause-finishes : goal.returns-clause-finishes
returns-clause-finishes c = λ slots j n t new told has runs waits. finish_keeps slots j n t has runs new told waits

pub returns-clause-looks : goal.returns-clause-looks
returns-clause-looks c = look_keeps

pub returns-clause-releases : goal.returns-clause-releases
returns-clause-releases c = release_keeps

pub returns-clause-replaces : goal.returns-clause-replaces
returns-clause-replaces c = λ slots j slot t has rests quiet. quiet_put slots j slot quiet rests t has
