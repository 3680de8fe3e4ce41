use Rattle.builtin_stages.specs.Results.{Copied}
use Rattle.builtin_stages.proofs.results.write_copies.Given as goal

abbrev pub invariant-copies : goal.invariant-copies
invariant-copies g l = Copied l.form l.counter (g.S.Source.known l.source) (g.W.Write.contents l.initial.writer) (g.W.Write.contents l.writer) l.feeds
