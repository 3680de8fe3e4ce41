use Rattle.spool_engine.specs.EventSteps.{setting}
use Rattle.engine_reserve.proofs.StepLaws.{last_let_in, steps_let_in}
use Rattle.engine_reserve.proofs.laws.refusals_change_nothing.Goals as goal

pub returns-clause-steps : goal.returns-clause-steps
returns-clause-steps g c = λ mime place area s turns are. steps_let_in (setting g.D.Disk.device mime place) area s turns are

pub returns-clause-last : goal.returns-clause-last
returns-clause-last g c = λ mime place area s turns are. last_let_in (setting g.D.Disk.device mime place) area s turns are
