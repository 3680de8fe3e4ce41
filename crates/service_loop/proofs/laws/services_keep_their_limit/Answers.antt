use Rattle.service_loop.proofs.CallLaws.{few_run}
use Rattle.service_loop.proofs.laws.services_keep_their_limit.Goals as goal

pub returns : goal.returns
returns g c = λ most left old new goes few. few_run g.D.Disk.device most old left new goes few
