-- The filters so far have their names.
use Rattle.std.proofs.Common.{◌≡◌, map, take}
use Rattle.program_pipes.specs.ChainRuns.{names_of}
use Rattle.program_pipes.proofs.running.unknown_filters.Given as goal

abbrev pub invariant-loop-filter : goal.invariant-loop-filter
invariant-loop-filter l = names_of l.ends.items ≡ map (λ listed. listed.name) (take l.filter-index l.filters)
