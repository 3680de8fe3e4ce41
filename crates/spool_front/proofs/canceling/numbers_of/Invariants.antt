-- The numbers of the jobs so far.
use Rattle.std.proofs.Common.{◌≡◌, take}
use Rattle.std.specs.Prelude.{filter_map}
use Rattle.std.specs.Option.{option_map}
use Rattle.spool_front.specs.Acts.{number_of}
use Rattle.spool_front.proofs.canceling.numbers_of.Given as goal

abbrev pub invariant-loop-job : goal.invariant-loop-job
invariant-loop-job l = l.numbers.items ≡ filter_map (number_of l.names (λ name. name.now) (option_map (λ user. user.now) l.user)) (take l.job-index l.jobs)
