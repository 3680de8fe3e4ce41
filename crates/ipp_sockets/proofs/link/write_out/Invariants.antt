-- The bytes that are left are the last ones.
use Rattle.ipp_sockets.specs.UnwrittenBytes.{IsRest, unwritten}
use Rattle.ipp_sockets.proofs.link.write_out.Given as goal

abbrev pub invariant-loop : goal.invariant-loop
invariant-loop g l = IsRest (unwritten l.fn.output) (unwritten l.output)
