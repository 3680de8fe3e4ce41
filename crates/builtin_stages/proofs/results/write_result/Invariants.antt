use Rattle.builtin_stages.proofs.ResultLaws.{Pieces}
use Rattle.builtin_stages.proofs.results.write_result.Given as goal

abbrev pub invariant-pieces : goal.invariant-pieces
invariant-pieces g l = Pieces l.form (g.R.Read.remaining l.initial.reader) (g.R.Read.remaining l.reader) (g.W.Write.contents l.initial.writer) (g.W.Write.contents l.writer) l.feeds
