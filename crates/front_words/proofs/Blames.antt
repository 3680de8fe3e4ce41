-- Why values and arguments are refused.
use Rattle.std.specs.Prelude.{Ok, Err, Result, MatchResult}
use Rattle.front_words.specs.WordFaults.{BlamesOnly, IsMistake, RefusesOnly}
use Rattle.front_words.specs.declared.fault.WordsFault.{WordsFault}
use Rattle.front_words.specs.declared.fault.WordsFault.TheVariants.{Refused, Memory}
use Rattle.front_words.specs.declared.fault.Wrong.{Wrong}
use Rattle.front_words.specs.declared.fault.Wrong.TheVariants as wrong

-- A fault that refutes p also refutes a stronger statement q.
pub less_refused : (p q : Type 0) (fault : WordsFault) → (q → p) → RefusesOnly p fault → RefusesOnly q fault
less_refused p q (Refused error) more only = λ held. only (more held)
less_refused p q Memory more only = tt

-- A false statement may be refused.
pub blames : (p : Type 0) (w : Wrong) → (p → ⊥) → BlamesOnly p w
blames p (wrong.Value text) never = never
blames p wrong.Memory never = tt

-- A fault that refutes p also refutes a stronger statement q.
pub less_blamed : (p q : Type 0) (w : Wrong) → (q → p) → BlamesOnly p w → BlamesOnly q w
less_blamed p q (wrong.Value text) more only = λ held. only (more held)
less_blamed p q wrong.Memory more only = tt

-- A mistake that is reported is one of the values.
pub tells_mistake : (p : Type 0) (w : Wrong) (fault : WordsFault) → BlamesOnly p w → IsMistake w fault → RefusesOnly p fault
tells_mistake p (wrong.Value text) (Refused error) only is = only
tells_mistake p (wrong.Value text) Memory only is = tt
tells_mistake p wrong.Memory (Refused error) only is = absurd is
tells_mistake p wrong.Memory Memory only is = tt

-- The verdict on the values is the verdict on the arguments, if clap accepts the arguments.
pub taken_so : {T : Type 0} (p q : Type 0) (r : Result T WordsFault) → p → MatchResult r (λ _. q) (RefusesOnly q) → MatchResult r (λ _. p × q) (RefusesOnly (p × q))
taken_so p q (Ok x) held fit = (held, fit)
taken_so p q (Err fault) held fit = less_refused q (p × q) fault (λ both. both.1) fit
