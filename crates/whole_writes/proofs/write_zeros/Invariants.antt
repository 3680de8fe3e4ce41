-- The whole blocks so far were written.
use Rattle.std.proofs.Common.{◌*◌, replicate}
use Rattle.std.specs.Io.KnownBytes.{Appends}
use Rattle.whole_writes.proofs.write_zeros.Given as goal

abbrev pub invariant-loop : goal.invariant-loop
invariant-loop g l = Appends (g.W.Write.contents l.initial.writer) (g.W.Write.contents l.writer) (replicate (l.counter * 65536) 0)
