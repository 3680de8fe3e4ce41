use Rattle.std.proofs.Common.{◌≡◌, take}
use Rattle.std.specs.List.{flat_map}
use Rattle.builtin_stages.specs.Results.{printed_byte}
use Rattle.builtin_stages.proofs.results.print_lines.Given as goal

abbrev pub invariant-loop-b : goal.invariant-loop-b
invariant-loop-b l = l.lines.items ≡ flat_map printed_byte (take l.b-index l.piece)
