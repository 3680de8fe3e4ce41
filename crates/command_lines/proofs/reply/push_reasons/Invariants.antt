-- The other reasons so far were appended, each after a comma.
use Rattle.std.proofs.Common.{◌≡◌, ◌∷◌, ◌++◌, take}
use Rattle.std.specs.List.{flat_map}
use Rattle.command_lines.proofs.reply.push_reasons.Given as goal

abbrev pub invariant-loop-reason : goal.invariant-loop-reason
invariant-loop-reason l = l.text.items ≡ l.initial.text.items ++ flat_map (λ reason. 44 ∷ reason) (take l.reason-index l.others)
