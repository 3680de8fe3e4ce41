-- The lines of the filters so far were added.
use Rattle.std.proofs.Common.{◌≡◌, ◌++◌, string_bytes, take}
use Rattle.std.specs.List.{flat_map}
use Rattle.program_pipes.specs.ChainEnds.{filter_line}
use Rattle.program_pipes.proofs.ends.push_filters.Given as goal

abbrev pub invariant-loop-filter : goal.invariant-loop-filter
invariant-loop-filter l = string_bytes l.text ≡ string_bytes l.fn.text ++ flat_map (filter_line l.backend) (take l.filter-index l.filters)
