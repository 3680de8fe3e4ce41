-- Events that are applied in order.
use Rattle.std.proofs.Common.{◌≡◌, ◌<◌, ◌≤◌, ⊎_elim, ℕ, ◌+◌, List, [], ◌∷◌, ◌++◌, length, take, Option, None, Some, Result, Err, refl, sym, subst, ap, ◌∙◌, arith, append_assoc, length-append}
use Rattle.std.proofs.lemmas.List.{take_at}
use Rattle.std.specs.Prelude.{slice_get}
use Rattle.spool_types.specs.declared.event.Event.{Event}
use Rattle.spool_types.specs.declared.event.Reply.{Reply}
use Rattle.spool_types.specs.declared.refusal.Refusal.{Refusal}
use Rattle.spool_types.specs.State.{State}
use Rattle.job_table.specs.EventFold.{after_one, after_all, unless_refused}
use Rattle.job_table.specs.Step.{refusal_of, step, answered, answer_to}
use Rattle.spool_disk.specs.Disk.{DiskView, IsLawful, LeavesOnly}
use Rattle.spool_disk.proofs.Moments.{started, runs_on, weaker_run}
use Rattle.spool_core.specs.Image.{HasTable, HasDocuments, HasWhole, HasBeforeOrAfterEvent, HasWholeBeforeOrAfterEvent, documents_after_one, unless_refused_sent}
use Rattle.spool_core.specs.Driving.{replies_to, documents_after, HasPrefixTable, HasWholePrefix, IsInHand, LeavesTable, LeavesWhole, IsChain, IsWholeChain, room_after, room_after_one}

pub after_all_last : (s : State) (es : List Event) (e : Event) → after_all s (es ++ e ∷ []) ≡ after_one (after_all s es) e
after_all_last s [] e = refl
after_all_last s (d ∷ es) e = after_all_last (after_one s d) es e

pub replies_last : (s : State) (es : List Event) (e : Event) → replies_to s (es ++ e ∷ []) ≡ replies_to s es ++ answer_to (after_all s es) e ∷ []
replies_last s [] e = refl
replies_last s (d ∷ es) e = ap (λ (l : List (Result Reply Refusal)). answer_to s d ∷ l) (replies_last (after_one s d) es e)

pub room_last : (s : State) (room : ℕ) (es : List Event) (e : Event) → room_after s room (es ++ e ∷ []) ≡ room_after_one (after_all s es) (room_after s room es) e
room_last s room [] e = refl
room_last s room (d ∷ es) e = room_last (after_one s d) (room_after_one s room d) es e

pub documents_after-append : (s : State) (documents : ℕ → List ℕ) (es ds : List Event) → documents_after s documents (es ++ ds) ≡ documents_after (after_all s es) (documents_after s documents es) ds
documents_after-append s documents [] ds = refl
documents_after-append s documents (e ∷ es) ds = documents_after-append (after_one s e) (documents_after_one s documents e) es ds

-- The first n of the events were taken, and this one is next.
pub record IsNext (events taken : List Event) (e : Event) (n : ℕ) : Type 0 where
  pub size : n ≡ length taken
  pub before : take n events ≡ taken
  pub after : take (n + 1) events ≡ taken ++ e ∷ []
  pub hand : IsInHand events n e
  pub fits : n < length events

hand_at : (taken : List Event) (e : Event) (rest : List Event) → slice_get (taken ++ e ∷ rest) (length taken) ≡ Some e
hand_at [] e rest = refl
hand_at (d ∷ taken) e rest = hand_at taken e rest

pub next_of : (events taken rest : List Event) (e : Event) (n : ℕ) → n ≡ length taken → events ≡ taken ++ e ∷ rest → IsNext events taken e n
next_of events taken rest e n size is =
    let more : taken ++ e ∷ rest ≡ (taken ++ e ∷ []) ++ rest = sym (append_assoc taken (e ∷ []) rest) in
    let long : length (taken ++ e ∷ []) ≡ n + 1 = omega (arith, length-append taken (e ∷ []), size) in
    record {
      size = size;
      before = ap (take n) is ∙ take_at taken (e ∷ rest) n (sym size);
      after = ap (take (n + 1)) (is ∙ more) ∙ take_at (taken ++ e ∷ []) rest (n + 1) long;
      hand = ap (λ (l : List Event). slice_get l n) is ∙ ap (slice_get (taken ++ e ∷ rest)) size ∙ hand_at taken e rest;
      fits = omega (arith, size, ap length is, length-append taken (e ∷ rest));
    }

-- The tables before and after one event are those of prefixes.
pub turn_prefix : (s : State) (events taken : List Event) (e : Event) (n : ℕ) (t : State) (c : List ℕ) → IsNext events taken e n → t ≡ after_all s taken → HasBeforeOrAfterEvent t e c → HasPrefixTable s events n (n + 1) c
turn_prefix s events taken e n t c next is =
    ⊎_elim
    (λ before. (n, omega arith, omega arith, subst (λ (u : State). HasTable u c) (is ∙ ap (after_all s) (sym next.before)) before))
    (λ later. (n + 1, omega arith, omega arith, subst (λ (u : State). HasTable u c) (ap (λ (u : State). after_one u e) is ∙ sym (after_all_last s taken e) ∙ ap (after_all s) (sym next.after)) later))

pub same_whole : (s t : State) (documents others : ℕ → List ℕ) (c : List ℕ) → s ≡ t → documents ≡ others → HasWhole s documents c → HasWhole t others c
same_whole s t documents others c is are has = subst (λ (u : State). HasWhole u others c) is (subst (λ (ds : ℕ → List ℕ). HasWhole s ds c) are has)

-- The same holds for their documents.
pub turn_whole : (s : State) (documents : ℕ → List ℕ) (events taken : List Event) (e : Event) (n : ℕ) (t : State) (others : ℕ → List ℕ) (c : List ℕ) → IsNext events taken e n
    → t ≡ after_all s taken → others ≡ documents_after s documents taken → HasWholeBeforeOrAfterEvent t others e c → HasWholePrefix s documents events n (n + 1) c
turn_whole s documents events taken e n t others c next is are =
    ⊎_elim
    (λ before. (
      n,
      omega arith,
      omega arith,
      same_whole t (after_all s (take n events)) others (documents_after s documents (take n events)) c
          (is ∙ ap (after_all s) (sym next.before)) (are ∙ ap (documents_after s documents) (sym next.before)) before,
    ))
    (λ later. (
      n + 1,
      omega arith,
      omega arith,
      same_whole (after_one t e) (after_all s (take (n + 1) events)) (documents_after_one t others e) (documents_after s documents (take (n + 1) events)) c
          (ap (λ (u : State). after_one u e) is ∙ sym (after_all_last s taken e) ∙ ap (after_all s) (sym next.after))
          ((λ i. documents_after_one (is i) (are i) e) ∙ sym (documents_after-append s documents taken (e ∷ [])) ∙ ap (documents_after s documents) (sym next.after)) later,
    ))

step_refused : (s : State) (e : Event) (r : Refusal) → step s e ≡ Err r → refusal_of s e ≡ Some r
step_refused s e r is = by_cause (refusal_of s e) is
  where
    by_cause : (o : Option Refusal) → answered s e o ≡ Err r → o ≡ Some r
    by_cause None is = absurd (cc is)
    by_cause (Some q) is = cc is

-- A refused event does not change the documents.
pub refused_sends : (s : State) (documents : ℕ → List ℕ) (e : Event) (r : Refusal) (c : List ℕ) → step s e ≡ Err r → HasWholeBeforeOrAfterEvent s documents e c → HasDocuments s (documents_after_one s documents e) c
refused_sends s documents e r c is =
    let refused = step_refused s e r is in
    ⊎_elim
    (λ before. subst (λ (ds : ℕ → List ℕ). HasDocuments s ds c) (sym (ap (unless_refused_sent documents e) refused)) before.1)
    (λ later. subst (λ (t : State). HasDocuments t (documents_after_one s documents e) c) (ap (unless_refused s e) refused) later.1)

-- The table after the first k events, and the same with its documents.
abbrev pub HasTableAfter : State → List Event → ℕ → List ℕ → Type 0
HasTableAfter s events k = HasTable (after_all s (take k events))

abbrev pub HasWholeAfter : State → (ℕ → List ℕ) → List Event → ℕ → List ℕ → Type 0
HasWholeAfter s documents events k = HasWhole (after_all s (take k events)) (documents_after s documents (take k events))

-- P holds after k events, with k from `least` to `most`.
abbrev pub IsBetween : (ℕ → List ℕ → Type 0) → ℕ → ℕ → List ℕ → Type 0
IsBetween P least most c = (k : ℕ) × (least ≤ k) × (k ≤ most) × P k c

wider : (P : ℕ → List ℕ → Type 0) (a b least most : ℕ) (c : List ℕ) → least ≤ a → b ≤ most → IsBetween P a b c → IsBetween P least most c
wider P a b least most c low high has = (has.0, omega (arith, low, has.1), omega (arith, high, has.2), has.3)

module _ {D : Type 0} (v : DiskView D) (lawful : IsLawful v) where
  -- No event was applied yet.
  pub run_none : (P : ℕ → List ℕ → Type 0) (d : D) → ((c : List ℕ) → v.image d c → P 0 c) → LeavesOnly v d d (IsBetween P 0 0)
  run_none P d kept = started v d (IsBetween P 0 0) (λ c left. (0, omega arith, omega arith, kept c (lawful.only_now d c left)))

  -- A run that leaves a prefix, followed by one more event.
  pub run_more : (P : ℕ → List ℕ → Type 0) (least n most : ℕ) (old mid new : D) → least ≤ n → n ≤ most → LeavesOnly v old mid (IsBetween P least n)
      → LeavesOnly v mid new (IsBetween P n most) → LeavesOnly v old new (IsBetween P least most)
  run_more P least n most old mid new low high first second =
      runs_on v old mid new (IsBetween P least most) (IsBetween P n most)
      (weaker_run v old mid (IsBetween P least most) (IsBetween P least n) first (λ c has. wider P least n least most c (omega arith) high has))
      second
      (λ c has. wider P n most least most c low (omega arith) has)

  -- The chain continues with one more event.
  pub chain_more : (s : State) (taken : List Event) (e : Event) (old mid new : D) → IsChain v s taken old mid → LeavesOnly v mid new (HasBeforeOrAfterEvent (after_all s taken) e)
      → LeavesTable v (after_one (after_all s taken) e) new → IsChain v s (taken ++ e ∷ []) old new
  chain_more s [] e old mid new same run kept = (new, subst (λ (d : D). LeavesOnly v d new (HasBeforeOrAfterEvent s e)) (sym same) run, kept, refl)
  chain_more s (d ∷ taken) e old mid new chain run kept = (chain.0, chain.1, chain.2, chain_more (after_one s d) taken e chain.0 mid new chain.3 run kept)

  -- The chain with the documents continues as well.
  pub whole_more : (s : State) (documents : ℕ → List ℕ) (taken : List Event) (e : Event) (old mid new : D) → IsWholeChain v s documents taken old mid
      → LeavesOnly v mid new (HasWholeBeforeOrAfterEvent (after_all s taken) (documents_after s documents taken) e)
      → LeavesWhole v (after_one (after_all s taken) e) (documents_after_one (after_all s taken) (documents_after s documents taken) e) new → IsWholeChain v s documents (taken ++ e ∷ []) old new
  whole_more s documents [] e old mid new same run kept = (new, subst (λ (d : D). LeavesOnly v d new (HasWholeBeforeOrAfterEvent s documents e)) (sym same) run, kept, refl)
  whole_more s documents (d ∷ taken) e old mid new chain run kept = (chain.0, chain.1, chain.2, whole_more (after_one s d) (documents_after_one s documents d) taken e chain.0 mid new chain.3 run kept)
