use Rattle.wait_causes.proofs.CauseLaws.{open_queue, ready}
use Rattle.wait_causes.proofs.laws.to_be_started_is_ready.Goals as goal

pub returns-clause-job : goal.returns-clause-job
returns-clause-job c = ready

pub returns-clause-queue : goal.returns-clause-queue
returns-clause-queue c = open_queue
