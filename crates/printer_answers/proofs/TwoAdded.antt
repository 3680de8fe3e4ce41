-- Values that were appended in two steps.
use Rattle.std.proofs.Common.{◌≡◌, ◌∙◌, ◌++◌, List, Result, Ok, Err, ap, append_assoc}
use Rattle.std.specs.Prelude.{OnOk}

pub two_added : {T E A : Type 0} (r : Result T E) (old mid new front back : List A) → mid ≡ old ++ front → OnOk r (new ≡ mid ++ back) → OnOk r (new ≡ old ++ (front ++ back))
two_added {A = A} (Ok t) old mid new front back one two = two ∙ ap (λ (l : List A). l ++ back) one ∙ append_assoc old front back
two_added (Err e) old mid new front back one two = tt
