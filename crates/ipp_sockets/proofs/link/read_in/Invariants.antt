-- The commands so far are answered or wait.
use Rattle.service_client.specs.Pipelines.{Ends, standing}
use Rattle.ipp_sockets.proofs.link.read_in.Given as goal

abbrev pub invariant-loop : goal.invariant-loop
invariant-loop g l = Ends (standing l.fn.pipeline) l.fn.answers.items l.answers.items (standing l.pipeline)
