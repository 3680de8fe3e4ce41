-- A policy and filters that are read have these bytes as their code, and their code is read as them.
use Rattle.std.proofs.Common.{◌≡◌, ℕ, ◌^◌, ◌<◌, Bool, true, false, cond, eqb, List, ◌++◌, length, Option, Some, None, Result, Ok, Err, refl, sym, ap, subst, ◌∙◌, arith, ◌⊎◌, inl, inr}
use Rattle.std.specs.List.{flat_map}
use Rattle.std.specs.Int.{w8, to_be_bytes}
use Rattle.std.proofs.lemmas.Bool.{eqb-true}
use Rattle.spool_types.specs.declared.phase.Policy.{Policy}
use Rattle.spool_types.specs.declared.phase.Policy.TheVariants.{AbortJob, RetryJob, RetryCurrentJob, StopPrinter}
use Rattle.spool_types.specs.Values.{is_filter_name}
use Rattle.field_codec.specs.declared.fault.CodecFault.{CodecFault}
use Rattle.field_codec.specs.declared.fault.CodecFault.TheVariants.{Range}
use Rattle.event_codec.specs.Spelling.{text_code, counted_code, policy_number, filters_code, IsIn, IsText, AreFilters}
use Rattle.event_codec.specs.EventReading.{◌>>=◌, number_at, ranged_at, policy_of, policy_at, text_at, list_at, filters_at, some_filters_at, flagged_filters_at, maybe_filters_at}
use Rattle.event_codec.proofs.FieldLaws.{IsBytes, bind_ok, ok_is, Takes, Takes-then, Reads, got, again-then, again-last, wide8, reads_number, reads_ranged, ok_as}
use Rattle.event_codec.proofs.ListLaws.{list_takes, list_again}
use Rattle.event_codec.proofs.TextLaws.{reads_filter_name}

-- The branch that a test selected.
pub chosen : {A : Type 0} (b : Bool) (x y z : A) → cond b x y ≡ z → ((b ≡ true) × (x ≡ z)) ⊎ ((b ≡ false) × (y ≡ z))
chosen true x y z e = inl (refl, e)
chosen false x y z e = inr (refl, e)

pub refused : {A : Type 0} (d : CodecFault) (x : A) → (let r : Result A CodecFault = Err d in r) ≡ Ok x → ⊥
refused d x e = cc

-- ---- policies

is_policy : (n : ℕ) (k : ℕ) (q p : Policy) → eqb n k ≡ true → policy_number q ≡ k → (let r : Result Policy CodecFault = Ok q in r) ≡ Ok p → n ≡ policy_number p
is_policy n k q p e h same = eqb-true n k e ∙ sym h ∙ ap policy_number (ok_is q p same)

policy_of_ok : (n : ℕ) (p : Policy) → policy_of n ≡ Ok p → n ≡ policy_number p
unfolding policy_of
policy_of_ok n p e =
    elim (chosen (eqb n 0) (Ok AbortJob) _ (Ok p) e) [
      | inl h ↦ is_policy n 0 AbortJob p h.0 refl h.1
      | inr h ↦ elim (chosen (eqb n 1) (Ok RetryJob) _ (Ok p) h.1) [
        | inl i ↦ is_policy n 1 RetryJob p i.0 refl i.1
        | inr i ↦ elim (chosen (eqb n 2) (Ok RetryCurrentJob) _ (Ok p) i.1) [
          | inl j ↦ is_policy n 2 RetryCurrentJob p j.0 refl j.1
          | inr j ↦ elim (chosen (eqb n 3) (Ok StopPrinter) (Err Range) (Ok p) j.1) [
            | inl k ↦ is_policy n 3 StopPrinter p k.0 refl k.1
            | inr k ↦ absurd (refused Range p k.1)
          ]
        ]
      ]
    ]

policy_of_again : (p : Policy) → policy_of (policy_number p) ≡ Ok p
unfolding policy_of
policy_of_again AbortJob = refl
policy_of_again RetryJob = refl
policy_of_again RetryCurrentJob = refl
policy_of_again StopPrinter = refl

policy_small : (p : Policy) → policy_number p < 2 ^ 8
policy_small AbortJob = omega arith
policy_small RetryJob = omega arith
policy_small RetryCurrentJob = omega arith
policy_small StopPrinter = omega arith

abbrev pub policy_code : Policy → List ℕ
policy_code p = to_be_bytes w8 (policy_number p)

abbrev pub Anything : {A : Type 0} → A → Type 0
Anything x = Unit {0}

abbrev pub reads_byte : Reads (number_at w8) (to_be_bytes w8) (λ n. n < 2 ^ 8)
reads_byte = reads_number w8 (2 ^ 8) wide8

policy_takes : (bytes : List ℕ) (p : Policy) (rest : List ℕ) → IsBytes bytes → policy_at bytes ≡ Ok (p, rest) → Takes bytes (policy_code p) rest × Anything p
unfolding policy_at
policy_takes bytes p rest fits e =
    let s = got (number_at w8) (to_be_bytes w8) (λ n. n < 2 ^ 8) reads_byte bytes (λ n. policy_of n.0 >>= λ policy. Ok (policy, n.1)) (p, rest) fits e in
    let c = bind_ok (policy_of s.value) (λ policy. Ok (policy, s.rest)) (p, rest) s.then in
    let taken : Takes bytes (policy_code c.value) s.rest = subst (λ (n : ℕ). Takes bytes (to_be_bytes w8 n) s.rest) (policy_of_ok s.value c.value c.was) s.taken in
    ok_as (λ (x : Policy × List ℕ). Takes bytes (policy_code x.0) x.1 × Anything x.0) (c.value, s.rest) (p, rest) c.then (taken, tt)

policy_again : (p : Policy) (rest : List ℕ) → Anything p → policy_at (policy_code p ++ rest) ≡ Ok (p, rest)
unfolding policy_at
policy_again p rest h =
    again-last (number_at w8) (to_be_bytes w8) (λ n. n < 2 ^ 8) reads_byte (policy_number p) rest (λ n. policy_of n.0 >>= λ policy. Ok (policy, n.1)) (policy_small p) ∙ rw (policy_of_again p) refl

pub reads_policy : Reads policy_at policy_code Anything
reads_policy = record { takes = policy_takes; again = policy_again }

-- ---- filters

abbrev pub reads_count : Reads (ranged_at 0 15 w8) (to_be_bytes w8) (IsIn 0 15)
reads_count = reads_ranged 0 15 w8 (2 ^ 8) wide8 (omega arith)

abbrev pub AreFew : List (List ℕ) → Type 0
AreFew fs = AreFilters (Some fs)

filters_take : (bytes : List ℕ) (fs : List (List ℕ)) (rest : List ℕ) → IsBytes bytes → filters_at bytes ≡ Ok (fs, rest) → Takes bytes (counted_code fs) rest × AreFew fs
unfolding filters_at
filters_take bytes fs rest fits e =
    let a = got (ranged_at 0 15 w8) (to_be_bytes w8) (IsIn 0 15) reads_count bytes (λ count. list_at (text_at is_filter_name) count.0 count.1) (fs, rest) fits e in
    let f = list_takes (text_at is_filter_name) text_code (IsText is_filter_name) reads_filter_name a.value a.rest fs rest a.taken.rest_fits a.then in
    let both = Takes-then bytes (to_be_bytes w8 a.value) a.rest (flat_map text_code fs) rest a.taken f.taken in (
      subst (λ (k : ℕ). Takes bytes (to_be_bytes w8 k ++ flat_map text_code fs) rest) (sym f.count) both,
      (omega (arith, f.count, a.legal.at_most), f.legal),
    )

filters_again : (fs : List (List ℕ)) (rest : List ℕ) → AreFew fs → filters_at (counted_code fs ++ rest) ≡ Ok (fs, rest)
unfolding filters_at
filters_again fs rest h =
    again-then (ranged_at 0 15 w8) (to_be_bytes w8) (IsIn 0 15) reads_count (length fs) (flat_map text_code fs) rest (λ count. list_at (text_at is_filter_name) count.0 count.1) (record { at_least = omega arith; at_most = h.0 })
    ∙ list_again (text_at is_filter_name) text_code (IsText is_filter_name) reads_filter_name fs rest h.1

pub reads_few : Reads filters_at counted_code AreFew
reads_few = record { takes = filters_take; again = filters_again }

-- ---- optional filters

record Maybe (bytes : List ℕ) (o : Option (List (List ℕ))) (rest : List ℕ) : Type 0 where
  taken : Takes bytes (filters_code o) rest
  legal : AreFilters o

no_filters : (bytes : List ℕ) (flag : ℕ) (after : List ℕ) (o : Option (List (List ℕ))) (rest : List ℕ) → Takes bytes (to_be_bytes w8 flag) after → flag ≡ 0 → (let none : Option (List (List ℕ)) × List ℕ = (None, after) in none) ≡ (o, rest) → Maybe bytes o rest
no_filters bytes flag after o rest t e same =
    let zero_taken : Takes bytes (to_be_bytes w8 0) after = subst (λ (n : ℕ). Takes bytes (to_be_bytes w8 n) after) e t in
    let none : Maybe bytes None after = record { taken = zero_taken; legal = tt } in
    subst (λ (x : Option (List (List ℕ)) × List ℕ). Maybe bytes x.0 x.1) same none

some_filters : (bytes : List ℕ) (flag : ℕ) (after : List ℕ) (o : Option (List (List ℕ))) (rest : List ℕ) → Takes bytes (to_be_bytes w8 flag) after → flag ≡ 1 → some_filters_at after ≡ Ok (o, rest) → Maybe bytes o rest
unfolding some_filters_at
some_filters bytes flag after o rest t e h =
    let c = got filters_at counted_code AreFew reads_few after (λ filters. Ok (Some filters.0, filters.1)) (o, rest) t.rest_fits h in
    let one_taken : Takes bytes (to_be_bytes w8 1) after = subst (λ (n : ℕ). Takes bytes (to_be_bytes w8 n) after) e t in
    let both = Takes-then bytes (to_be_bytes w8 1) after (counted_code c.value) c.rest one_taken c.taken in
    let some : Maybe bytes (Some c.value) c.rest = record { taken = both; legal = c.legal } in
    ok_as (λ (x : Option (List (List ℕ)) × List ℕ). Maybe bytes x.0 x.1) (Some c.value, c.rest) (o, rest) c.then some

flagged_take : (bytes : List ℕ) (flag : ℕ) (after : List ℕ) (o : Option (List (List ℕ))) (rest : List ℕ) → Takes bytes (to_be_bytes w8 flag) after → flagged_filters_at flag after ≡ Ok (o, rest) → Maybe bytes o rest
unfolding flagged_filters_at
flagged_take bytes flag after o rest t e =
    elim (chosen (eqb flag 0) (Ok (None, after)) _ (Ok (o, rest)) e) [
      | inl h ↦ no_filters bytes flag after o rest t (eqb-true flag 0 h.0) (ok_is (None, after) (o, rest) h.1)
      | inr h ↦ elim (chosen (eqb flag 1) (some_filters_at after) (Err Range) (Ok (o, rest)) h.1) [
        | inl i ↦ some_filters bytes flag after o rest t (eqb-true flag 1 i.0) i.1
        | inr i ↦ absurd (refused Range (o, rest) i.1)
      ]
    ]

maybe_takes : (bytes : List ℕ) (o : Option (List (List ℕ))) (rest : List ℕ) → IsBytes bytes → maybe_filters_at bytes ≡ Ok (o, rest) → Takes bytes (filters_code o) rest × AreFilters o
unfolding maybe_filters_at
maybe_takes bytes o rest fits e =
    let a = got (number_at w8) (to_be_bytes w8) (λ n. n < 2 ^ 8) reads_byte bytes (λ flag. flagged_filters_at flag.0 flag.1) (o, rest) fits e in
    let m = flagged_take bytes a.value a.rest o rest a.taken a.then in
    (m.taken, m.legal)

maybe_again : (o : Option (List (List ℕ))) (rest : List ℕ) → AreFilters o → maybe_filters_at (filters_code o ++ rest) ≡ Ok (o, rest)
unfolding maybe_filters_at flagged_filters_at some_filters_at
maybe_again None rest h = again-last (number_at w8) (to_be_bytes w8) (λ n. n < 2 ^ 8) reads_byte 0 rest (λ flag. flagged_filters_at flag.0 flag.1) (omega arith)
maybe_again (Some fs) rest h =
    again-then (number_at w8) (to_be_bytes w8) (λ n. n < 2 ^ 8) reads_byte 1 (counted_code fs) rest (λ flag. flagged_filters_at flag.0 flag.1) (omega arith)
    ∙ again-last filters_at counted_code AreFew reads_few fs rest (λ filters. Ok (Some filters.0, filters.1)) h

pub reads_filters : Reads maybe_filters_at filters_code AreFilters
reads_filters = record { takes = maybe_takes; again = maybe_again }
