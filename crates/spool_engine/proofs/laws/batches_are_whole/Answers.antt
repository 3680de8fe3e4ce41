use Rattle.spool_engine.specs.EventSteps.{setting}
use Rattle.spool_engine.proofs.CallCrashLaws.{batch_from}
use Rattle.spool_engine.proofs.laws.batches_are_whole.Goals as goal

pub returns : goal.returns
returns g c = λ mime place s steps next kept are settles alive tells.
    batch_from (setting g.D.Disk.device mime place) g.met.D.Disk.lawful s s.spool.state steps next are settles alive (record { tells = tells; each = λ image now. kept alive tells image now })
