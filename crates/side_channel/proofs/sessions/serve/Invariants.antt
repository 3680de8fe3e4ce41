use Rattle.side_channel.proofs.SessionLaws.{Progress}
use Rattle.side_channel.proofs.sessions.serve.Given as goal

abbrev pub invariant-packets : goal.invariant-packets
invariant-packets g l = Progress l.device (g.R.Read.remaining l.initial.reader) (g.R.Read.remaining l.reader) (g.W.Write.contents l.initial.writer) (g.W.Write.contents l.writer)

abbrev pub decreases-packets : goal.decreases-packets
decreases-packets g l = l.reads
