-- The order of walks is strict, and of any two of different worth one beats the other.
use Rattle.std.proofs.Common.{◌≡◌, ℕ, ◌<◌, true, false, ◌&&◌, ◌||◌, List, [], ◌∷◌, length, eqb, ltb, refl, ap, sym, ◌∙◌, arith, ◌⊎◌, inl, inr, eq-eqb, lt-ltb}
use Rattle.std.proofs.lemmas.Bool.{both_ways, false_from_ne_true, or_from, or_cases, or_left, or_right, and_from, and_parts, and_right, le-ltb, ltb-true, eqb-true, false≢true, cases_order}
use Rattle.mime_costs.specs.Walks.{Worth, is_before, beats}

-- ## Lists of lines

before-irreflexive : (xs : List ℕ) → is_before xs xs ≡ false
before-irreflexive [] = refl
before-irreflexive (x ∷ xs) = or_from (ltb x x) (eqb x x && is_before xs xs) (le-ltb x x (omega arith)) (and_right (eqb x x) (is_before xs xs) (before-irreflexive xs))

-- How one list precedes another.
how_before : (n m : ℕ) (xs ys : List ℕ) → is_before (n ∷ xs) (m ∷ ys) ≡ true → (n < m) ⊎ ((n ≡ m) × (is_before xs ys ≡ true))
how_before n m xs ys h = parts (or_cases (ltb n m) (eqb n m && is_before xs ys) h)
  where
    parts : (ltb n m ≡ true) ⊎ ((eqb n m && is_before xs ys) ≡ true) → (n < m) ⊎ ((n ≡ m) × (is_before xs ys ≡ true))
    parts (inl l) = inl (ltb-true n m l)
    parts (inr b) = (let p = and_parts (eqb n m) (is_before xs ys) b in inr (eqb-true n m p.0, p.1))

lower_before : (n m : ℕ) (xs ys : List ℕ) → n < m → is_before (n ∷ xs) (m ∷ ys) ≡ true
lower_before n m xs ys l = or_left (ltb n m) (eqb n m && is_before xs ys) (lt-ltb n m l)

rest_before : (n m : ℕ) (xs ys : List ℕ) → n ≡ m → is_before xs ys ≡ true → is_before (n ∷ xs) (m ∷ ys) ≡ true
rest_before n m xs ys e h = or_right (ltb n m) (eqb n m && is_before xs ys) (and_from (eqb n m) (is_before xs ys) (eq-eqb n m e) h)

before-transitive : (xs ys zs : List ℕ) → is_before xs ys ≡ true → is_before ys zs ≡ true → is_before xs zs ≡ true
before-transitive xs ys [] h k = absurd (false≢true k)
before-transitive [] ys (l ∷ zs) h k = refl
before-transitive (n ∷ xs) [] (l ∷ zs) h k = absurd (false≢true h)
before-transitive (n ∷ xs) (m ∷ ys) (l ∷ zs) h k = join (λ p q. before-transitive xs ys zs p q) (how_before n m xs ys h) (how_before m l ys zs k)
  where
    join : (is_before xs ys ≡ true → is_before ys zs ≡ true → is_before xs zs ≡ true) → (n < m) ⊎ ((n ≡ m) × (is_before xs ys ≡ true)) → (m < l) ⊎ ((m ≡ l) × (is_before ys zs ≡ true)) → is_before (n ∷ xs) (l ∷ zs) ≡ true
    join rest (inl a) (inl b) = lower_before n l xs zs (omega arith)
    join rest (inl a) (inr (e, b)) = lower_before n l xs zs (omega arith)
    join rest (inr (e, a)) (inl b) = lower_before n l xs zs (omega arith)
    join rest (inr (e, a)) (inr (f, b)) = rest_before n l xs zs (e ∙ f) (rest a b)

before-connected : (xs ys : List ℕ) → (xs ≡ ys) ⊎ ((is_before xs ys ≡ true) ⊎ (is_before ys xs ≡ true))
before-connected [] [] = inl refl
before-connected [] (y ∷ ys) = inr (inl refl)
before-connected (x ∷ xs) [] = inr (inr refl)
before-connected (x ∷ xs) (y ∷ ys) = at (cases_order x y) (before-connected xs ys)
  where
    at : (x ≡ y) ⊎ ((x < y) ⊎ (y < x)) → (xs ≡ ys) ⊎ ((is_before xs ys ≡ true) ⊎ (is_before ys xs ≡ true)) → (x ∷ xs ≡ y ∷ ys) ⊎ ((is_before (x ∷ xs) (y ∷ ys) ≡ true) ⊎ (is_before (y ∷ ys) (x ∷ xs) ≡ true))
    at (inr (inl l)) rest = inr (inl (lower_before x y xs ys l))
    at (inr (inr l)) rest = inr (inr (lower_before y x ys xs l))
    at (inl e) (inl f) = inl (cc)
    at (inl e) (inr (inl b)) = inr (inl (rest_before x y xs ys e b))
    at (inl e) (inr (inr b)) = inr (inr (rest_before y x ys xs (sym e) b))

-- ## Walks

-- How one walk beats another.
abbrev pub Wins : Worth → Worth → Type 0
Wins a b = (a.cost < b.cost) ⊎ ((a.cost ≡ b.cost) × ((length a.lines < length b.lines) ⊎ ((length a.lines ≡ length b.lines) × (is_before a.lines b.lines ≡ true))))

how_beats : (a b : Worth) → beats a b ≡ true → Wins a b
how_beats a b h = first (or_cases (ltb a.cost b.cost) _ h)
  where
    third : (ltb (length a.lines) (length b.lines) ≡ true) ⊎ ((eqb (length a.lines) (length b.lines) && is_before a.lines b.lines) ≡ true) → (length a.lines < length b.lines) ⊎ ((length a.lines ≡ length b.lines) × (is_before a.lines b.lines ≡ true))
    third (inl l) = inl (ltb-true (length a.lines) (length b.lines) l)
    third (inr r) = (let p = and_parts (eqb (length a.lines) (length b.lines)) (is_before a.lines b.lines) r in inr (eqb-true (length a.lines) (length b.lines) p.0, p.1))

    first : (ltb a.cost b.cost ≡ true) ⊎ ((eqb a.cost b.cost && (ltb (length a.lines) (length b.lines) || (eqb (length a.lines) (length b.lines) && is_before a.lines b.lines))) ≡ true) → Wins a b
    first (inl l) = inl (ltb-true a.cost b.cost l)
    first (inr r) =
        (let p = and_parts (eqb a.cost b.cost) (ltb (length a.lines) (length b.lines) || (eqb (length a.lines) (length b.lines) && is_before a.lines b.lines)) r in
        inr (eqb-true a.cost b.cost p.0, third (or_cases (ltb (length a.lines) (length b.lines)) (eqb (length a.lines) (length b.lines) && is_before a.lines b.lines) p.1)))

wins_beat : (a b : Worth) → Wins a b → beats a b ≡ true
wins_beat a b (inl l) = or_left (ltb a.cost b.cost) _ (lt-ltb a.cost b.cost l)
wins_beat a b (inr (e, inl l)) = or_right (ltb a.cost b.cost) _ (and_from (eqb a.cost b.cost) _ (eq-eqb a.cost b.cost e) (or_left (ltb (length a.lines) (length b.lines)) _ (lt-ltb (length a.lines) (length b.lines) l)))
wins_beat a b (inr (e, inr (f, h))) =
    or_right (ltb a.cost b.cost) _
    (and_from (eqb a.cost b.cost) _ (eq-eqb a.cost b.cost e)
    (or_right (ltb (length a.lines) (length b.lines)) _ (and_from (eqb (length a.lines) (length b.lines)) (is_before a.lines b.lines) (eq-eqb (length a.lines) (length b.lines) f) h)))

pub beats-irreflexive : (a : Worth) → beats a a ≡ false
beats-irreflexive a =
    or_from (ltb a.cost a.cost) _ (le-ltb a.cost a.cost (omega arith))
    (and_right (eqb a.cost a.cost) _
    (or_from (ltb (length a.lines) (length a.lines)) _ (le-ltb (length a.lines) (length a.lines) (omega arith)) (and_right (eqb (length a.lines) (length a.lines)) (is_before a.lines a.lines) (before-irreflexive a.lines))))

pub beats-transitive : (a b c : Worth) → beats a b ≡ true → beats b c ≡ true → beats a c ≡ true
beats-transitive a b c h k = wins_beat a c (join (how_beats a b h) (how_beats b c k))
  where
    join : Wins a b → Wins b c → Wins a c
    join (inl l) (inl m) = inl (omega arith)
    join (inl l) (inr (e, q)) = inl (omega arith)
    join (inr (e, p)) (inl m) = inl (omega arith)
    join (inr (e, inl p)) (inr (f, inl q)) = inr (e ∙ f, inl (omega arith))
    join (inr (e, inl p)) (inr (f, inr (s, q))) = inr (e ∙ f, inl (omega arith))
    join (inr (e, inr (r, p))) (inr (f, inl q)) = inr (e ∙ f, inl (omega arith))
    join (inr (e, inr (r, p))) (inr (f, inr (s, q))) = inr (e ∙ f, inr (r ∙ s, before-transitive a.lines b.lines c.lines p q))

-- Two walks have the same worth, or one of them beats the other.
pub beats-cases : (a b : Worth) → (a ≡ b) ⊎ ((beats a b ≡ true) ⊎ (beats b a ≡ true))
beats-cases a b = by_cost (cases_order a.cost b.cost)
  where
    by_lines : a.cost ≡ b.cost → length a.lines ≡ length b.lines → (a.lines ≡ b.lines) ⊎ ((is_before a.lines b.lines ≡ true) ⊎ (is_before b.lines a.lines ≡ true)) → (a ≡ b) ⊎ ((beats a b ≡ true) ⊎ (beats b a ≡ true))
    by_lines e f (inl same) = inl (ap (λ n. record { cost = n; lines = a.lines }) e ∙ ap (λ l. record { cost = b.cost; lines = l }) same)
    by_lines e f (inr (inl h)) = inr (inl (wins_beat a b (inr (e, inr (f, h)))))
    by_lines e f (inr (inr h)) = inr (inr (wins_beat b a (inr (sym e, inr (sym f, h)))))

    by_count : a.cost ≡ b.cost → (length a.lines ≡ length b.lines) ⊎ ((length a.lines < length b.lines) ⊎ (length b.lines < length a.lines)) → (a ≡ b) ⊎ ((beats a b ≡ true) ⊎ (beats b a ≡ true))
    by_count e (inl f) = by_lines e f (before-connected a.lines b.lines)
    by_count e (inr (inl l)) = inr (inl (wins_beat a b (inr (e, inl l))))
    by_count e (inr (inr l)) = inr (inr (wins_beat b a (inr (sym e, inl l))))

    by_cost : (a.cost ≡ b.cost) ⊎ ((a.cost < b.cost) ⊎ (b.cost < a.cost)) → (a ≡ b) ⊎ ((beats a b ≡ true) ⊎ (beats b a ≡ true))
    by_cost (inl e) = by_count e (cases_order (length a.lines) (length b.lines))
    by_cost (inr (inl l)) = inr (inl (wins_beat a b (inl l)))
    by_cost (inr (inr l)) = inr (inr (wins_beat b a (inl l)))

pub beats-connected : (a b : Worth) → (a ≡ b → ⊥) → (beats a b ≡ true) ⊎ (beats b a ≡ true)
beats-connected a b other = elim (beats-cases a b) [ inl e ↦ absurd (other e) | inr h ↦ h ]

-- A walk that is beaten does not beat its winner.
pub beats-asymmetric : (a b : Worth) → beats b a ≡ true → beats a b ≡ false
beats-asymmetric a b h = false_from_ne_true (beats a b) (λ k. both_ways (beats a a) (beats-irreflexive a) (beats-transitive a b a k h))

-- If a does not beat b and b does not beat c, a does not beat c.
pub unbeaten-transitive : (a b c : Worth) → beats a b ≡ false → beats b c ≡ false → beats a c ≡ false
unbeaten-transitive a b c h k = at (beats-cases a b)
  where
    at : (a ≡ b) ⊎ ((beats a b ≡ true) ⊎ (beats b a ≡ true)) → beats a c ≡ false
    at (inl e) = ap (λ w. beats w c) e ∙ k
    at (inr (inl l)) = absurd (both_ways (beats a b) h l)
    at (inr (inr l)) = false_from_ne_true (beats a c) (λ m. both_ways (beats b c) k (beats-transitive b a c l m))
