-- A flag and a hold's end that are read have these bytes as their code, and their code is read as them.
use Rattle.std.proofs.Common.{◌≡◌, ℕ, ◌^◌, ◌<◌, Bool, true, false, cond, eqb, List, ◌++◌, Option, Some, None, Ok, Err, refl, ap, subst, ◌∙◌, arith, inl, inr}
use Rattle.std.specs.Int.{w8, w64, to_be_bytes}
use Rattle.std.proofs.lemmas.Bool.{eqb-true}
use Rattle.spool_types.specs.Limits.{greatest_moment}
use Rattle.field_codec.specs.declared.fault.CodecFault.TheVariants.{Range}
use Rattle.event_codec.specs.Spelling.{flag_code, until_code, IsIn, IsMoment}
use Rattle.event_codec.specs.EventReading.{◌>>=◌, number_at, ranged_at, flag_of, flag_at, moment_at, flagged_until_at, until_at}
use Rattle.event_codec.proofs.FieldLaws.{IsBytes, bind_ok, ok_is, Takes, Takes-then, Reads, got, again-then, again-last, wide64, reads_ranged, ok_as}
use Rattle.event_codec.proofs.FilterLaws.{Anything, chosen, refused, reads_byte}

-- ---- flags

abbrev flag_number : Bool → ℕ
flag_number flag = cond flag 1 0

is_flag : (n k : ℕ) (q p : Bool) → eqb n k ≡ true → k ≡ flag_number q → q ≡ p → n ≡ flag_number p
is_flag n k q p e h same = eqb-true n k e ∙ h ∙ ap flag_number same

flag_of_ok : (n : ℕ) (flag : Bool) → flag_of n ≡ Ok flag → n ≡ flag_number flag
unfolding flag_of
flag_of_ok n flag e =
    elim (chosen (eqb n 0) (Ok false) _ (Ok flag) e) [
      | inl h ↦ is_flag n 0 false flag h.0 refl (ok_is false flag h.1)
      | inr h ↦ elim (chosen (eqb n 1) (Ok true) (Err Range) (Ok flag) h.1) [
        | inl i ↦ is_flag n 1 true flag i.0 refl (ok_is true flag i.1)
        | inr i ↦ absurd (refused Range flag i.1)
      ]
    ]

flag_of_again : (flag : Bool) → flag_of (flag_number flag) ≡ Ok flag
unfolding flag_of
flag_of_again true = refl
flag_of_again false = refl

flag_small : (flag : Bool) → flag_number flag < 2 ^ 8
flag_small true = omega arith
flag_small false = omega arith

flag_takes : (bytes : List ℕ) (flag : Bool) (rest : List ℕ) → IsBytes bytes → flag_at bytes ≡ Ok (flag, rest) → Takes bytes (flag_code flag) rest × Anything flag
unfolding flag_at
flag_takes bytes flag rest fits e =
    let s = got (number_at w8) (to_be_bytes w8) (λ n. n < 2 ^ 8) reads_byte bytes (λ n. flag_of n.0 >>= λ flag. Ok (flag, n.1)) (flag, rest) fits e in
    let c = bind_ok (flag_of s.value) (λ flag. Ok (flag, s.rest)) (flag, rest) s.then in
    let taken : Takes bytes (flag_code c.value) s.rest = subst (λ (n : ℕ). Takes bytes (to_be_bytes w8 n) s.rest) (flag_of_ok s.value c.value c.was) s.taken in
    ok_as (λ (x : Bool × List ℕ). Takes bytes (flag_code x.0) x.1 × Anything x.0) (c.value, s.rest) (flag, rest) c.then (taken, tt)

flag_again : (flag : Bool) (rest : List ℕ) → Anything flag → flag_at (flag_code flag ++ rest) ≡ Ok (flag, rest)
unfolding flag_at
flag_again flag rest h =
    again-last (number_at w8) (to_be_bytes w8) (λ n. n < 2 ^ 8) reads_byte (flag_number flag) rest (λ n. flag_of n.0 >>= λ flag. Ok (flag, n.1)) (flag_small flag) ∙ rw (flag_of_again flag) refl

pub reads_flag : Reads flag_at flag_code Anything
reads_flag = record { takes = flag_takes; again = flag_again }

-- ---- the end of a hold

abbrev pub reads_moment : Reads (ranged_at 0 greatest_moment w64) (to_be_bytes w64) (IsIn 0 greatest_moment)
reads_moment = reads_ranged 0 greatest_moment w64 (2 ^ 64) wide64 (omega arith)

record Ended (bytes : List ℕ) (o : Option ℕ) (rest : List ℕ) : Type 0 where
  moment : ℕ
  is : Some moment ≡ o
  taken : Takes bytes (to_be_bytes w64 moment) rest
  legal : IsIn 0 greatest_moment moment

moment_take : (bytes : List ℕ) (o : Option ℕ) (rest : List ℕ) → IsBytes bytes → moment_at bytes ≡ Ok (o, rest) → Ended bytes o rest
unfolding moment_at
moment_take bytes o rest fits e =
    let a = got (ranged_at 0 greatest_moment w64) (to_be_bytes w64) (IsIn 0 greatest_moment) reads_moment bytes (λ moment. Ok (Some moment.0, moment.1)) (o, rest) fits e in
    let same = ok_is (Some a.value, a.rest) (o, rest) a.then in
    record {
      moment = a.value;
      is = ap (λ (x : Option ℕ × List ℕ). x.0) same;
      taken = subst (λ (x : Option ℕ × List ℕ). Takes bytes (to_be_bytes w64 a.value) x.1) same a.taken;
      legal = a.legal;
    }

moment_again : (m : ℕ) (rest : List ℕ) → IsIn 0 greatest_moment m → moment_at (to_be_bytes w64 m ++ rest) ≡ Ok (Some m, rest)
unfolding moment_at
moment_again m rest h = again-last (ranged_at 0 greatest_moment w64) (to_be_bytes w64) (IsIn 0 greatest_moment) reads_moment m rest (λ moment. Ok (Some moment.0, moment.1)) h

record Until (bytes : List ℕ) (o : Option ℕ) (rest : List ℕ) : Type 0 where
  taken : Takes bytes (until_code o) rest
  legal : IsMoment o

never_ended : (bytes : List ℕ) (flag : ℕ) (after : List ℕ) (o : Option ℕ) (rest : List ℕ) → Takes bytes (to_be_bytes w8 flag) after → flag ≡ 1 → (let none : Option ℕ × List ℕ = (None, after) in none) ≡ (o, rest) → Until bytes o rest
never_ended bytes flag after o rest t e same =
    let one_taken : Takes bytes (to_be_bytes w8 1) after = subst (λ (n : ℕ). Takes bytes (to_be_bytes w8 n) after) e t in
    let none : Until bytes None after = record { taken = one_taken; legal = tt } in
    subst (λ (x : Option ℕ × List ℕ). Until bytes x.0 x.1) same none

ended : (bytes : List ℕ) (flag : ℕ) (after : List ℕ) (o : Option ℕ) (rest : List ℕ) → Takes bytes (to_be_bytes w8 flag) after → flag ≡ 2 → moment_at after ≡ Ok (o, rest) → Until bytes o rest
ended bytes flag after o rest t e h =
    let m = moment_take after o rest t.rest_fits h in
    let two_taken : Takes bytes (to_be_bytes w8 2) after = subst (λ (n : ℕ). Takes bytes (to_be_bytes w8 n) after) e t in
    let both = Takes-then bytes (to_be_bytes w8 2) after (to_be_bytes w64 m.moment) rest two_taken m.taken in
    let some : Until bytes (Some m.moment) rest = record { taken = both; legal = m.legal } in
    subst (λ (p : Option ℕ). Until bytes p rest) m.is some

flagged_take : (bytes : List ℕ) (flag : ℕ) (after : List ℕ) (o : Option ℕ) (rest : List ℕ) → Takes bytes (to_be_bytes w8 flag) after → flagged_until_at flag after ≡ Ok (o, rest) → Until bytes o rest
unfolding flagged_until_at
flagged_take bytes flag after o rest t e =
    elim (chosen (eqb flag 1) (Ok (None, after)) _ (Ok (o, rest)) e) [
      | inl h ↦ never_ended bytes flag after o rest t (eqb-true flag 1 h.0) (ok_is (None, after) (o, rest) h.1)
      | inr h ↦ elim (chosen (eqb flag 2) (moment_at after) (Err Range) (Ok (o, rest)) h.1) [
        | inl i ↦ ended bytes flag after o rest t (eqb-true flag 2 i.0) i.1
        | inr i ↦ absurd (refused Range (o, rest) i.1)
      ]
    ]

until_takes : (bytes : List ℕ) (o : Option ℕ) (rest : List ℕ) → IsBytes bytes → until_at bytes ≡ Ok (o, rest) → Takes bytes (until_code o) rest × IsMoment o
unfolding until_at
until_takes bytes o rest fits e =
    let a = got (number_at w8) (to_be_bytes w8) (λ n. n < 2 ^ 8) reads_byte bytes (λ flag. flagged_until_at flag.0 flag.1) (o, rest) fits e in
    let u = flagged_take bytes a.value a.rest o rest a.taken a.then in
    (u.taken, u.legal)

until_again : (o : Option ℕ) (rest : List ℕ) → IsMoment o → until_at (until_code o ++ rest) ≡ Ok (o, rest)
unfolding until_at flagged_until_at
until_again None rest h = again-last (number_at w8) (to_be_bytes w8) (λ n. n < 2 ^ 8) reads_byte 1 rest (λ flag. flagged_until_at flag.0 flag.1) (omega arith)
until_again (Some m) rest h =
    again-then (number_at w8) (to_be_bytes w8) (λ n. n < 2 ^ 8) reads_byte 2 (to_be_bytes w64 m) rest (λ flag. flagged_until_at flag.0 flag.1) (omega arith)
    ∙ moment_again m rest h

pub reads_until : Reads until_at until_code IsMoment
reads_until = record { takes = until_takes; again = until_again }
