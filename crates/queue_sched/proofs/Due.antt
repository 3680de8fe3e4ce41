-- The moment until which the same entries may be started.
use Rattle.std.proofs.Common.{◌≡◌, ℕ, ◌<◌, ◌≤◌, ◌⊎◌, true, false, nat_le, List, [], ◌∷◌, ◌++◌, length, Option, None, Some, MatchOption, inl, inr, refl, sym, ap, subst, ◌∙◌, append_assoc, arith}
use Rattle.std.proofs.Math.Logic.{⊎_elim}
use Rattle.std.proofs.lemmas.Bool.{both_ways}
use Rattle.std.proofs.lemmas.Bool.Decides.{nat_tests}
use Rattle.std.proofs.lemmas.List.{append-nil, nil_from_length}
use Rattle.std.proofs.lemmas.List.Elements.{Contains-push_cases}
use Rattle.std.specs.List.{Contains, filter}
use Rattle.spool_types.specs.declared.phase.Hold.{Hold}
use Rattle.spool_types.specs.declared.phase.Hold.TheVariants.{Free, Indefinite, Until}
use Rattle.queue_sched.specs.WaitingIndex.{is_startable}
use Rattle.queue_sched.specs.Next.{may_start}
use Rattle.queue_sched.specs.Lists.{IsBefore, IsSameUntil}
use Rattle.queue_sched.specs.declared.entry.Entry.{Entry}
use Rattle.queue_sched.proofs.More.{agreed}

-- An entry that may be started now may be started later.
still : (now m : ℕ) (hold : Hold) (not_before : ℕ) → now ≤ m → may_start now hold not_before ≡ true → may_start m hold not_before ≡ true
still now m Free not_before le starts = grind (arith, nat_tests)
still now m (Indefinite reason) not_before le starts = absurd (both_ways false refl starts)
still now m (Until moment) not_before le starts = grind (arith, nat_tests)

-- An entry that may not be started now may not be started before its start.
not_yet : (start now m : ℕ) → m < start → nat_le start m ≡ false
not_yet start now m lt = grind (arith, nat_tests)

-- The moment from which the entry may be started, if ever.
abbrev pub IsStart : Entry → Option ℕ → Type 0
IsStart e start = MatchOption start ((m : ℕ) → is_startable m e ≡ false) (λ s. (m : ℕ) → is_startable m e ≡ nat_le s m)

module _ (e : Entry) (now : ℕ) where
  -- An entry that may be started now may still be started later.
  pub stays : is_startable now e ≡ true → (m : ℕ) → now ≤ m → is_startable m e ≡ is_startable now e
  stays so m le = still now m e.hold e.not_before le so ∙ sym so

  -- An entry that may not be started now may not be started until its start.
  pub waits : (start : Option ℕ) → IsStart e start → is_startable now e ≡ false → (m : ℕ) → IsBefore m start → is_startable m e ≡ is_startable now e
  waits None never not_so m before = never m ∙ sym (never now)
  waits (Some s) starts not_so m before = starts m ∙ not_yet s now m before ∙ sym not_so

-- With one more entry.
module _ (old new : List Entry) (e : Entry) (now : ℕ) (cases : (f : Entry) → Contains new f → Contains old f ⊎ (f ≡ e)) (due : Option ℕ) (same : IsSameUntil old now due) where
  pub with_ready : is_startable now e ≡ true → IsSameUntil new now due
  with_ready so f there m le before =
      ⊎_elim (λ (was : Contains old f). same f was m le before) (λ (is : f ≡ e). subst (λ g. is_startable m g ≡ is_startable now g) (sym is) (stays e now so m le)) (cases f there)

  pub with_waiting : (start due' : Option ℕ) → IsStart e start → is_startable now e ≡ false → ((m : ℕ) → IsBefore m due' → IsBefore m due × IsBefore m start) → IsSameUntil new now due'
  with_waiting start due' starts not_so sooner f there m le before =
      ⊎_elim (λ (was : Contains old f). same f was m le (sooner m before).0) (λ (is : f ≡ e). subst (λ g. is_startable m g ≡ is_startable now g) (sym is) (waits e now start starts not_so m (sooner m before).1)) (cases f there)

-- At a later moment before the due one, the same entries may be started.
pub same_later : (xs : List Entry) (now m : ℕ) (due : Option ℕ) → IsSameUntil xs now due → now ≤ m → IsBefore m due → filter (is_startable now) xs ≡ filter (is_startable m) xs
same_later xs now m due same le before = agreed (is_startable now) (is_startable m) xs (λ e there. sym (same e there m le before))

pub until_later : (xs : List Entry) (now m : ℕ) (due : Option ℕ) → IsSameUntil xs now due → now ≤ m → IsBefore m due → IsSameUntil xs m due
until_later xs now m due same le before e there m' le' before' =
    same e there m' (omega (arith, le, le')) before' ∙ sym (same e there m le before)

-- The state of a loop after some entries, with the others left.
pub record IsSameSoFar (xs left : List Entry) (now : ℕ) (due : Option ℕ) : Type 0 where
  pub done : List Entry
  pub rest : done ++ left ≡ xs
  pub same : IsSameUntil done now due

pub none_so_far : (xs left : List Entry) (now : ℕ) (due : Option ℕ) → left ≡ xs → IsSameSoFar xs left now due
none_so_far xs left now due all = record {
  done = [];
  rest = all;
  same = λ e there. absurd (omega (arith, there.1));
}

module _ (xs left : List Entry) (e : Entry) (left' : List Entry) (now : ℕ) (due : Option ℕ) (so_far : IsSameSoFar xs left now due) (is : left ≡ e ∷ left') where
  cases : (f : Entry) → Contains (so_far.done ++ e ∷ []) f → Contains so_far.done f ⊎ (f ≡ e)
  cases f there = ⊎_elim (λ old. inl old) (λ (same : e ≡ f). inr (sym same)) (Contains-push_cases so_far.done e f there)

  passed : (so_far.done ++ e ∷ []) ++ left' ≡ xs
  passed = append_assoc so_far.done (e ∷ []) left' ∙ ap (λ l. so_far.done ++ l) (sym is) ∙ so_far.rest

  pub one_ready : is_startable now e ≡ true → IsSameSoFar xs left' now due
  one_ready so = record {
    done = so_far.done ++ e ∷ [];
    rest = passed;
    same = with_ready so_far.done (so_far.done ++ e ∷ []) e now cases due so_far.same so;
  }

  pub one_waiting : (start due' : Option ℕ) → IsStart e start → is_startable now e ≡ false → ((m : ℕ) → IsBefore m due' → IsBefore m due × IsBefore m start) → IsSameSoFar xs left' now due'
  one_waiting start due' starts not_so sooner = record {
    done = so_far.done ++ e ∷ [];
    rest = passed;
    same = with_waiting so_far.done (so_far.done ++ e ∷ []) e now cases due so_far.same start due' starts not_so sooner;
  }

pub none_left : (xs left : List Entry) (now : ℕ) (due : Option ℕ) → IsSameSoFar xs left now due → length left ≡ 0 → IsSameUntil xs now due
none_left xs left now due so_far empty =
    subst (λ l. IsSameUntil l now due) (sym (append-nil so_far.done) ∙ ap (λ l. so_far.done ++ l) (sym (nil_from_length left empty)) ∙ so_far.rest) so_far.same
