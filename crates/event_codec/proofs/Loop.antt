-- Reading values in order in a loop.
use Rattle.std.proofs.Common.{◌≡◌, ℕ, suc, ◌-◌, ◌+◌, ◌≤◌, ◌<◌, List, [], ◌∷◌, ◌++◌, length, Result, Ok, Err, refl, sym, ap, ◌∙◌, append_assoc, arith}
use Rattle.std.proofs.lemmas.List.{append-nil}
use Rattle.field_codec.specs.declared.fault.CodecFault.{CodecFault}
use Rattle.field_codec.specs.declared.fault.CodecFault.TheVariants.{Kind, Length, Range, Utf8, Memory}
use Rattle.event_codec.specs.EventReading.{◌>>=◌, Fails, list_at}

-- Values, and the input that remains after them.
abbrev pub Listing : Type 0 → Type 0 → Type 0
Listing A T = Result (List A × T) CodecFault

-- The values that were read before, followed by the remaining ones.
abbrev pub with_front : {A T : Type 0} → List A → Listing A T → Listing A T
with_front front read = read >>= λ x. Ok (front ++ x.0, x.1)

regroup : {A T : Type 0} (front : List A) (f : A) (read : Listing A T) → with_front front (read >>= λ x. Ok (f ∷ x.0, x.1)) ≡ with_front (front ++ f ∷ []) read
regroup {A = A} front f (Ok x) = ap (λ (fs : List A). Ok (fs, x.1)) (simp append_assoc)
regroup front f (Err e) = refl

pub goes_on : {A T : Type 0} (one : T → Result (A × T) CodecFault) (front : List A) (count i : ℕ) (from : T) (f : A) (after : T) (total : Listing A T) → i < count → one from ≡ Ok (f, after)
    → with_front front (list_at one (count - i) from) ≡ total → with_front (front ++ f ∷ []) (list_at one (count - (i + 1)) after) ≡ total
unfolding list_at
goes_on one front count i from f after total lt h so_far =
    let k : count - i ≡ suc (count - (i + 1)) = omega arith in
    let step : with_front front (list_at one (count - i) from) ≡ with_front (front ++ f ∷ []) (list_at one (count - (i + 1)) after) = rw (k, h) (regroup front f (list_at one (count - (i + 1)) after)) in
    sym step ∙ so_far

stops : {A T : Type 0} (e : CodecFault) (one : T → Result (A × T) CodecFault) (front : List A) (count i : ℕ) (from : T) (total : Listing A T) → i < count → one from ≡ Err e
    → with_front front (list_at one (count - i) from) ≡ total → total ≡ Err e
unfolding list_at
stops e one front count i from total lt h so_far =
    let k : count - i ≡ suc (count - (i + 1)) = omega arith in
    let step : with_front front (list_at one (count - i) from) ≡ Err e = rw (k, h) refl in
    sym so_far ∙ step

pub ends : {A T : Type 0} (e : CodecFault) (one : T → Result (A × T) CodecFault) (front : List A) (count i : ℕ) (from : T) (total : Listing A T) → i < count → Fails e (one from)
    → with_front front (list_at one (count - i) from) ≡ total → Fails e total
ends Kind one front count i from total lt h so_far = stops Kind one front count i from total lt h so_far
ends Length one front count i from total lt h so_far = stops Length one front count i from total lt h so_far
ends Range one front count i from total lt h so_far = stops Range one front count i from total lt h so_far
ends Utf8 one front count i from total lt h so_far = stops Utf8 one front count i from total lt h so_far
ends Memory one front count i from total lt h so_far = tt

pub is_done : {A T : Type 0} (one : T → Result (A × T) CodecFault) (front : List A) (count i : ℕ) (from : T) (total : Listing A T) → count ≤ i → with_front front (list_at one (count - i) from) ≡ total → total ≡ Ok (front, from)
unfolding list_at
is_done {A = A} one front count i from total le so_far =
    let k : count - i ≡ 0 = omega arith in
    let step : with_front front (list_at one (count - i) from) ≡ Ok (front, from) = rw k (ap (λ (fs : List A). Ok (fs, from)) (append-nil front)) in
    sym so_far ∙ step

-- The invariant of the loop.
pub record IsFront {A T : Type 0} (one : T → Result (A × T) CodecFault) (front : List A) (count i : ℕ) (start from : T) : Type 0 where
  pub read : with_front front (list_at one (count - i) from) ≡ list_at one count start
  pub counted : length front ≡ i

nothing_before : {A T : Type 0} (read : Listing A T) → with_front [] read ≡ read
nothing_before (Ok x) = refl
nothing_before (Err e) = refl

pub front_starts : {A T : Type 0} (one : T → Result (A × T) CodecFault) (count : ℕ) (start : T) → IsFront one [] count 0 start start
front_starts one count start =
    let k : count - 0 ≡ count = omega arith in
    record { read = rw k (nothing_before (list_at one count start)); counted = refl }

-- An error is also the error of the steps that would have followed.
pub fails_then : {A B : Type 0} (e : CodecFault) (r : Result A CodecFault) (f : A → Result B CodecFault) → Fails e r → Fails e (r >>= f)
fails_then Kind r f h = rw h refl
fails_then Length r f h = rw h refl
fails_then Range r f h = rw h refl
fails_then Utf8 r f h = rw h refl
fails_then Memory r f h = tt
