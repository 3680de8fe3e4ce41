use Rattle.std.proofs.Common.{◌≡◌, drop, map}
use Rattle.std.specs.List.{list_any}
use Rattle.front_words.specs.AskedTasks.{is_interval}
use Rattle.front_words.proofs.programs.any_interval.Given as goal

abbrev pub invariant-loop-text : goal.invariant-loop-text
invariant-loop-text l = list_any is_interval (map (λ text. text.now) (drop l.text-index l.texts)) ≡ list_any is_interval (map (λ text. text.now) l.texts)
