-- An entry that is put after it was removed, and the result of a call that may fail.
use Rattle.std.proofs.Common.{◌≡◌, ◌⊎◌, inl, inr, ℕ, Bool, true, false, cond, Option, None, Some, Result, Ok, Err, refl}
use Rattle.std.specs.Result.{OnOk, OnErr}

pub put_after : (b : Bool) (now : ℕ) (o : Option ℕ) → cond b (Some now) (cond b None o) ≡ cond b (Some now) o
put_after true now o = refl
put_after false now o = refl

pub by_result : {A B : Type 0} (r : Result A B) (P Q : Type 0) → OnOk r P → OnErr r Q → P ⊎ Q
by_result (Ok x) P Q ok err = inl ok
by_result (Err e) P Q ok err = inr err
