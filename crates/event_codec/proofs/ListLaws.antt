-- Values in order that are read have these bytes as their code, and their code is read as these values.
use Rattle.std.proofs.Common.{◌≡◌, ℕ, zero, suc, List, [], ◌∷◌, ◌++◌, length, Ok, refl, ap, ◌∙◌}
use Rattle.std.specs.List.{flat_map, AllByRecursion}
use Rattle.std.proofs.lemmas.List.Concat.{flat_map-cons}
use Rattle.event_codec.specs.EventReading.{Field, ◌>>=◌, list_at}
use Rattle.event_codec.proofs.FieldLaws.{IsBytes, bind_ok, Takes, Takes-then, Reads, got, again-then, ok_as}

pub record Listed {A : Type 0} (code : A → List ℕ) (Legal : A → Type 0) (n : ℕ) (bytes : List ℕ) (xs : List A) (rest : List ℕ) : Type 0 where
  pub taken : Takes bytes (flat_map code xs) rest
  pub count : length xs ≡ n
  pub legal : AllByRecursion Legal xs

pub list_takes : {A : Type 0} (one : List ℕ → Field A) (code : A → List ℕ) (Legal : A → Type 0) → Reads one code Legal → (n : ℕ) (bytes : List ℕ) (xs : List A) (rest : List ℕ) → IsBytes bytes → list_at one n bytes ≡ Ok (xs, rest) → Listed code Legal n bytes xs rest
unfolding list_at
list_takes {A = A} one code Legal reads zero bytes xs rest fits e =
    ok_as (λ (y : List A × List ℕ). Listed code Legal zero bytes y.0 y.1) ([], bytes) (xs, rest) e (record { taken = record { parts = refl; rest_fits = fits }; count = refl; legal = tt })
list_takes {A = A} one code Legal reads (suc n) bytes xs rest fits e =
    let a = got one code Legal reads bytes (λ first. list_at one n first.1 >>= λ others. Ok (first.0 ∷ others.0, others.1)) (xs, rest) fits e in
    let b = bind_ok (list_at one n a.rest) (λ others. Ok (a.value ∷ others.0, others.1)) (xs, rest) a.then in
    let others = list_takes one code Legal reads n a.rest b.value.0 b.value.1 a.taken.rest_fits b.was in
    let both = Takes-then bytes (code a.value) a.rest (flat_map code b.value.0) b.value.1 a.taken others.taken in
    ok_as (λ (y : List A × List ℕ). Listed code Legal (suc n) bytes y.0 y.1) (a.value ∷ b.value.0, b.value.1) (xs, rest) b.then (record { taken = rw flat_map-cons both; count = ap suc others.count; legal = (a.legal, others.legal) })

pub list_again : {A : Type 0} (one : List ℕ → Field A) (code : A → List ℕ) (Legal : A → Type 0) → Reads one code Legal → (xs : List A) (rest : List ℕ) → AllByRecursion Legal xs → list_at one (length xs) (flat_map code xs ++ rest) ≡ Ok (xs, rest)
unfolding list_at
list_again one code Legal reads [] rest h = refl
list_again one code Legal reads (x ∷ xs) rest h =
    ap (λ (t : List ℕ). list_at one (suc (length xs)) (t ++ rest)) (flat_map-cons code x xs)
    ∙ again-then one code Legal reads x (flat_map code xs) rest (λ first. list_at one (length xs) first.1 >>= λ others. Ok (first.0 ∷ others.0, others.1)) h.0
    ∙ rw (list_again one code Legal reads xs rest h.1) refl
