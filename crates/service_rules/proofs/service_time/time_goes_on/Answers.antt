-- The laws on the time of the service.
use Rattle.service_rules.proofs.Timing.{at_table, held, on, over}
use Rattle.service_rules.proofs.service_time.time_goes_on.Goals as goal

pub returns-clause-on : goal.returns-clause-on
returns-clause-on c = on

pub returns-clause-over : goal.returns-clause-over
returns-clause-over c = over

pub returns-clause-table : goal.returns-clause-table
returns-clause-table c = at_table

pub returns-clause-held : goal.returns-clause-held
returns-clause-held c = held
