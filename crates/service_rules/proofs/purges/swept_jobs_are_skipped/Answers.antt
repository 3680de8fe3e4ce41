use Rattle.service_rules.proofs.Skipping.{skipped}
use Rattle.service_rules.proofs.Sweeping.{rest_above, none_above}
use Rattle.service_rules.proofs.purges.swept_jobs_are_skipped.Goals as goal

pub returns-clause-skipped : goal.returns-clause-skipped
returns-clause-skipped c = skipped

pub returns-clause-rest : goal.returns-clause-rest
returns-clause-rest c = rest_above

pub returns-clause-ended : goal.returns-clause-ended
returns-clause-ended c = none_above
