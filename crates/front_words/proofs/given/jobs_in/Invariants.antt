use Rattle.std.proofs.Common.{◌≡◌, [], drop, map}
use Rattle.front_words.specs.ArgumentValues.{numbers_on}
use Rattle.front_words.proofs.given.jobs_in.Given as goal

abbrev pub invariant-loop-text : goal.invariant-loop-text
invariant-loop-text l = numbers_on l.jobs.items (map (λ text. text.now) (drop l.text-index l.texts)) ≡ numbers_on [] (map (λ text. text.now) l.texts)
