use Rattle.spool_engine.specs.EventSteps.{setting}
use Rattle.spool_engine.proofs.ReplyLaws.{replied}
use Rattle.spool_engine.proofs.laws.replies_are_scripts.Goals as goal

pub returns : goal.returns
returns g c = λ mime place s t is. replied c.tickets_stay.ensures.finishes (setting g.D.Disk.device mime place) s t is
