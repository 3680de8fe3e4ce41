-- The engine closes the job as the given type, or as the type that it detects.
use Rattle.std.proofs.Common.{◌≡◌, ℕ, List, Result, Ok, Err, IfOk, refl}
use Rattle.service_loop.proofs.shared.Shared.close.Goals as goal

-- The answer is that of the engine.
own_answer : {T E S : Type 0} (r : Result T E) (Takes : S → Type 0) (told : S → List ℕ) (text : T → List ℕ) → IfOk r (λ given. (t : S) × Takes t × (text given ≡ told t))
    → IfOk r (λ given. (t : S) × Takes t × (answer : T) × (text answer ≡ told t) × (text given ≡ text answer))
own_answer (Ok given) Takes told text (t, takes, same) = (t, takes, given, same, refl)
own_answer (Err e) Takes told text done = tt

pub returns-in-Some-clause-executed : goal.returns-in-Some-clause-executed
returns-in-Some-clause-executed g c = (rw c.in-Some.is c.close_as.ensures.executed)

pub returns-in-None-clause-executed : goal.returns-in-None-clause-executed
returns-in-None-clause-executed g c = (rw c.in-None.is (own_answer _ _ _ _ c.execute.ensures.executed))
