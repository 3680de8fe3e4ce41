use Rattle.std.proofs.Common.{◌≡◌, [], drop, map}
use Rattle.front_words.specs.ArgumentValues.{names_on}
use Rattle.front_words.proofs.given.names_in.Given as goal

abbrev pub invariant-loop-text : goal.invariant-loop-text
invariant-loop-text l =
    names_on (map (λ text. text.now) l.names.items) (map (λ text. text.now) (drop l.text-index l.texts)) ≡ names_on [] (map (λ text. text.now) l.texts)
