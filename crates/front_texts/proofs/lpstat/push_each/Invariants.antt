-- The reasons so far.
use Rattle.std.proofs.Common.{◌≡◌, ◌++◌, take}
use Rattle.std.specs.List.{flat_map}
use Rattle.front_texts.specs.Lpstat.{blank_part}
use Rattle.front_texts.proofs.lpstat.push_each.Given as goal

abbrev pub invariant-loop-reason : goal.invariant-loop-reason
invariant-loop-reason l = l.text.items ≡ l.initial.text.items ++ flat_map blank_part (take l.reason-index l.reasons)
