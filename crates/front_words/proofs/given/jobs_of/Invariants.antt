use Rattle.std.proofs.Common.{◌≡◌, drop, map}
use Rattle.front_words.specs.ArgumentValues.{jobs_of, jobs_on}
use Rattle.front_words.proofs.given.jobs_of.Given as goal

abbrev pub invariant-loop-text : goal.invariant-loop-text
invariant-loop-text l = jobs_on l.jobs.items (map (λ text. text.now) (drop l.text-index l.texts)) ≡ jobs_of (map (λ text. text.now) l.texts)
