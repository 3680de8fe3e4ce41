-- The order of alternatives, and the best of a list.
use Rattle.std.proofs.Common.{◌≡◌, ℕ, Bool, true, false, ◌&&◌, ◌||◌, cond, List, [], ◌∷◌, eqb, ltb, refl, ap, subst, sym, ◌∙◌, arith, ◌⊎◌, inl, inr, Option, None, Some}
use Rattle.std.proofs.lemmas.Bool.{false≢true}
use Rattle.std.proofs.lemmas.Bool.Decides.{nat_tests}
use Rattle.std.proofs.lemmas.Cmp.{upto, tied_itself, on_total, then_total, back_total, nat_cmp_total, nat_list_cmp_total}
use Rattle.std.proofs.lemmas.List.Elements.{All-nil, All-cons, All-weaker, All-contains, Contains-append_right}
use Rattle.std.proofs.lemmas.Map.Lookups.{exact_bytes}
use Rattle.std.specs.Cmp.{IsTotalOrder}
use Rattle.std.specs.Cmp.Lexicographic.{slice_cmp}
use Rattle.std.specs.List.{Contains}
use Rattle.std.specs.Ordering.{nat_cmp, is_lt, is_gt, then_cmp, flip_args, on, ordering_then, ordering_reverse}
use Rattle.std.specs.declared.cmp.Ordering.{Ordering}
use Rattle.std.specs.declared.cmp.Ordering.TheVariants.{Less, Equal, Greater}
use Rattle.mime_rules.specs.Tests.{Subject}
use Rattle.mime_rules.specs.RuleLines.{Alternative}
use Rattle.mime_rules.specs.BestType.{beats, better, best, IsBest, NoneHolds}

-- ## The order

-- The order of two alternatives: the higher priority comes first, then the type that is alphabetically first.
abbrev rank : Alternative → Alternative → Ordering
rank = then_cmp (flip_args (on (λ a. a.priority) nat_cmp)) (on (λ a. a.media) (slice_cmp nat_cmp))

rank-total : IsTotalOrder rank
rank-total = then_total (back_total (on_total (λ a. a.priority) nat_cmp_total)) (on_total (λ a. a.media) nat_list_cmp_total)

lt_then : (m n : ℕ) (o : Ordering) → (ltb n m || (eqb m n && is_lt o)) ≡ is_lt (ordering_then (nat_cmp n m) o)
lt_then m n o = grind (arith, nat_tests)

beats_rank : (a b : Alternative) → beats a b ≡ is_lt (rank a b)
beats_rank a b = lt_then a.priority b.priority (slice_cmp nat_cmp a.media b.media)

lt_back : (o : Ordering) → is_lt o ≡ is_gt (ordering_reverse o)
lt_back Less = refl
lt_back Equal = refl
lt_back Greater = refl

beats_back : (a b : Alternative) → beats b a ≡ is_gt (rank a b)
beats_back a b = beats_rank b a ∙ lt_back (rank b a) ∙ ap is_gt (sym (rank-total.antisymm a b))

less : (o : Ordering) → is_lt o ≡ true → o ≡ Less
less Less h = refl
less Equal h = absurd (false≢true h)
less Greater h = absurd (false≢true h)

tied : (o : Ordering) → is_lt o ≡ false → is_gt o ≡ false → o ≡ Equal
tied Less h k = cc
tied Equal h k = refl
tied Greater h k = cc

pub beats-irreflexive : (a : Alternative) → beats a a ≡ false
beats-irreflexive a = beats_rank a a ∙ ap is_lt (tied_itself rank-total a)

pub beats-transitive : (a b c : Alternative) → beats a b ≡ true → beats b c ≡ true → beats a c ≡ true
beats-transitive a b c h k =
    beats_rank a c
    ∙ ap is_lt (rank-total.trans a b c (less (rank a b) (sym (beats_rank a b) ∙ h)) (less (rank b c) (sym (beats_rank b c) ∙ k)))

-- The order is asymmetric.
beats-asymmetric : (a b : Alternative) → beats a b ≡ true → beats b a ≡ false
beats-asymmetric a b h = beats_back a b ∙ ap is_gt (less (rank a b) (sym (beats_rank a b) ∙ h))

-- If b does not beat a and c does not beat b, c does not beat a.
unbeaten_below : (a b c : Alternative) → beats b a ≡ false → beats c b ≡ false → beats c a ≡ false
unbeaten_below a b c h k = beats_back a c ∙ upto rank-total a b c (sym (beats_back a b) ∙ h) (sym (beats_back b c) ∙ k)

then_ties : (o p : Ordering) → ordering_then o p ≡ Equal → (o ≡ Equal) × (p ≡ Equal)
then_ties Less p h = cc
then_ties Equal p h = (refl, h)
then_ties Greater p h = cc

same_number : (m n : ℕ) → nat_cmp n m ≡ Equal → m ≡ n
same_number m n h = grind (arith, nat_tests)

unbeaten_ties : (a b : Alternative) → beats a b ≡ false → beats b a ≡ false → (a.media ≡ b.media) × (a.priority ≡ b.priority)
unbeaten_ties a b h k =
    let e = then_ties (nat_cmp b.priority a.priority) (slice_cmp nat_cmp a.media b.media) (tied (rank a b) (sym (beats_rank a b) ∙ h) (sym (beats_back a b) ∙ k)) in
    (exact_bytes a.media b.media e.1, same_number a.priority b.priority e.0)

pub beats-connected : (a b : Alternative) → ((a.media ≡ b.media) × (a.priority ≡ b.priority) → ⊥) → (beats a b ≡ true) ⊎ (beats b a ≡ true)
beats-connected a b other = by_tests (beats a b) (beats b a) refl refl
  where
    by_tests : (v w : Bool) → beats a b ≡ v → beats b a ≡ w → (beats a b ≡ true) ⊎ (beats b a ≡ true)
    by_tests true w h k = inl h
    by_tests false true h k = inr k
    by_tests false false h k = absurd (other (unbeaten_ties a b h k))

-- ## The best of a list

-- The meaning of a result for a list.
abbrev Says : Subject → List Alternative → Option Alternative → Type 0
Says s all None = NoneHolds s all
Says s all (Some a) = IsBest s all a

here : (a : Alternative) (more : List Alternative) → Contains (a ∷ more) a
here a more = (0, omega arith, refl)

later : (a : Alternative) (more : List Alternative) (b : Alternative) → Contains more b → Contains (a ∷ more) b
later a more b = Contains-append_right (a ∷ []) more b

-- A true alternative, before a list with a known result.
with_true : (s : Subject) (a : Alternative) (more : List Alternative) → a.rule s ≡ true → (found : Option Alternative) → Says s more found → IsBest s (a ∷ more) (better a found)
with_true s a more h None rest = record {
  listed = here a more;
  holds = h;
  unbeaten = All-cons (λ b. b.rule s ≡ true → beats b a ≡ false) a more (λ _. beats-irreflexive a)
      (All-weaker (λ b. b.rule s ≡ false) (λ b. b.rule s ≡ true → beats b a ≡ false) (λ b f t. absurd (false≢true (sym f ∙ t))) more rest);
}
with_true s a more h (Some b) rest = by_test (beats b a) refl
  where
    by_test : (v : Bool) → beats b a ≡ v → IsBest s (a ∷ more) (cond v b a)
    by_test true k = record {
      listed = later a more b rest.listed;
      holds = rest.holds;
      unbeaten = All-cons (λ c. c.rule s ≡ true → beats c b ≡ false) a more (λ _. beats-asymmetric b a k) rest.unbeaten;
    }
    by_test false k = record {
      listed = here a more;
      holds = h;
      unbeaten = All-cons (λ c. c.rule s ≡ true → beats c a ≡ false) a more (λ _. beats-irreflexive a)
          (All-weaker (λ c. c.rule s ≡ true → beats c b ≡ false) (λ c. c.rule s ≡ true → beats c a ≡ false) (λ c u t. unbeaten_below a b c k (u t)) more rest.unbeaten);
    }

-- A false alternative.
with_false : (s : Subject) (a : Alternative) (more : List Alternative) → a.rule s ≡ false → (found : Option Alternative) → Says s more found → Says s (a ∷ more) found
with_false s a more h None rest = All-cons (λ b. b.rule s ≡ false) a more h rest
with_false s a more h (Some b) rest = record {
  listed = later a more b rest.listed;
  holds = rest.holds;
  unbeaten = All-cons (λ c. c.rule s ≡ true → beats c b ≡ false) a more (λ t. absurd (false≢true (sym h ∙ t))) rest.unbeaten;
}

says_best : (s : Subject) (all : List Alternative) → Says s all (best s all)
says_best s [] = All-nil (λ b. b.rule s ≡ false)
says_best s (a ∷ more) = by_rule (says_best s more) (a.rule s) refl
  where
    by_rule : Says s more (best s more) → (v : Bool) → a.rule s ≡ v → Says s (a ∷ more) (cond v (Some (better a (best s more))) (best s more))
    by_rule rest true h = with_true s a more h (best s more) rest
    by_rule rest false h = with_false s a more h (best s more) rest

pub best-some : (s : Subject) (all : List Alternative) (a : Alternative) → best s all ≡ Some a → IsBest s all a
best-some s all a h = subst (Says s all) h (says_best s all)

pub best-none : (s : Subject) (all : List Alternative) → best s all ≡ None → NoneHolds s all
best-none s all h = subst (Says s all) h (says_best s all)

pub best-only : (s : Subject) (all : List Alternative) (a b : Alternative) → IsBest s all a → IsBest s all b → a.media ≡ b.media
best-only s all a b p q =
    (unbeaten_ties a b (All-contains (λ c. c.rule s ≡ true → beats c b ≡ false) all a q.unbeaten p.listed p.holds)
    (All-contains (λ c. c.rule s ≡ true → beats c a ≡ false) all b p.unbeaten q.listed q.holds)).0
