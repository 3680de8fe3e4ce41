-- The names are the same.
use Rattle.std.proofs.Common.{◌≡◌}
use Rattle.program_pipes.specs.ChainRuns.{names_of}
use Rattle.program_pipes.proofs.running.wait_all.Given as goal

abbrev pub invariant-loop-index : goal.invariant-loop-index
invariant-loop-index g l = record {
  filters : names_of l.end.filters.items ≡ names_of l.fn.end.filters.items;
  name : l.end.name ≡ l.fn.end.name;
}
