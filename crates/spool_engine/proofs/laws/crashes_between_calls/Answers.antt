use Rattle.spool_engine.specs.EventSteps.{setting}
use Rattle.spool_engine.proofs.CallCrashLaws.{along_calls, along_later_calls, whole_later}
use Rattle.spool_engine.proofs.laws.crashes_between_calls.Goals as goal

pub returns-clause-calls : goal.returns-clause-calls
returns-clause-calls g c = λ mime place s calls kept are alive tells.
    along_calls (setting g.D.Disk.device mime place) g.met.D.Disk.lawful s calls kept are alive tells

pub returns-clause-tables : goal.returns-clause-tables
returns-clause-tables g c = λ mime place s first others kept calls settled alive tells.
    along_later_calls (setting g.D.Disk.device mime place) g.met.D.Disk.lawful s first others (λ none. kept) calls settled alive tells

pub returns-clause-documents : goal.returns-clause-documents
returns-clause-documents g c = λ mime place s documents first others kept has none calls settled alive tells.
    whole_later (setting g.D.Disk.device mime place) g.met.D.Disk.lawful s documents first others kept has none calls settled alive tells
