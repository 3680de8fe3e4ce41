-- The queues that were left out are first in the next tick.
use Rattle.std.proofs.Common.{◌≡◌, ◌⊎◌, inl, inr, ℕ, zero, suc, ◌+◌, ◌-◌, ◌<◌, ◌≤◌, ◌%◌, Bool, true, false, cond, not, ◌&&◌, List, [], ◌∷◌, length, map, get_or, refl, sym, ap, subst, ◌∙◌, arith}
use Rattle.std.specs.Prelude.{nat_le}
use Rattle.std.specs.FinMap as finite
use Rattle.std.proofs.lemmas.Bool.{cases_eq, cases_lt}
use Rattle.std.proofs.lemmas.Bool.Decides.{nat_tests}
use Rattle.std.proofs.lemmas.List.{length-map}
use Rattle.std.proofs.Math.Nat.{mod_self, mod-eq_of_lt}
use Rattle.spool_types.specs.State.{State}
use Rattle.child_pipeline.specs.StageSlots.{Slots}
use Rattle.print_rounds.specs.StageChecks.{blocked_flags}
use Rattle.print_rounds.specs.Passes.{unblocked}
use Rattle.print_rounds.specs.StartLimits.{can_start, has_next}
use Rattle.print_rounds.specs.Turns.{AreInTurn, IsLeftOut, IsTurnAfter, queues_before}

fits : (m n : ℕ) → m ≤ n → nat_le m n ≡ true
fits m n le = grind (arith, nat_tests)

beyond : (m n : ℕ) → n < m → nat_le m n ≡ false
beyond m n lt = grind (arith, nat_tests)

pub before_ahead : (n turn first at : ℕ) → turn % n ≡ first → first ≤ at → queues_before n turn at ≡ at - first
before_ahead n turn first at is le = ap (λ (m : ℕ). cond (nat_le m at) (at - m) (n - m + at)) is ∙ ap (λ (b : Bool). cond b (at - first) (n - first + at)) (fits first at le)

pub before_behind : (n turn first at : ℕ) → turn % n ≡ first → at < first → queues_before n turn at ≡ n - first + at
before_behind n turn first at is lt = ap (λ (m : ℕ). cond (nat_le m at) (at - m) (n - m + at)) is ∙ ap (λ (b : Bool). cond b (at - first) (n - first + at)) (beyond first at lt)

-- The order from `turn` on: first the positions from `first` on.
module _ (n first turn : ℕ) (closed : List Bool) (able : ℕ → Bool) (lt : first < n) (start : turn % n ≡ first)
    (ahead : (i j : ℕ) → first ≤ j → j < i → i < n → able j ≡ true → get_or closed j true ≡ true → get_or closed i true ≡ true)
    (behind : (i j : ℕ) → j < i → i < first → able j ≡ true → get_or closed j true ≡ true → get_or closed i true ≡ true)
    (over : (i j : ℕ) → first ≤ j → j < n → i < first → able j ≡ true → get_or closed j true ≡ true → get_or closed i true ≡ true) where
  not_both : (i : ℕ) → get_or closed i true ≡ false → get_or closed i true ≡ true → ⊥
  not_both i off on = let both : false ≡ true = sym off ∙ on in absurd (cc)

  -- A queue that was left out comes after each chosen one.
  abbrev IsAfter : ℕ → ℕ → Type 0
  IsAfter i j = ((first ≤ i) × (i < j)) ⊎ ((first ≤ i) × (j < first)) ⊎ ((i < j) × (j < first))

  is_after : (i j : ℕ) → i < n → j < n → get_or closed i true ≡ false → able j ≡ true → get_or closed j true ≡ true → IsAfter i j
  is_after i j i_in j_in off can on = elim (cases_lt i first) [
    | inl low ↦ elim (cases_lt j first) [
      | inl j_low ↦ elim (cases_lt i j) [
        | inl less ↦ inr (inr (less, j_low))
        | inr more ↦ elim (cases_eq i j) [
          | inl same ↦ absurd (not_both i off (ap (λ (k : ℕ). get_or closed k true) same ∙ on))
          | inr apart ↦ absurd (not_both i off (behind i j (omega (arith, more, apart)) low can on))
        ]
      ]
      | inr j_high ↦ absurd (not_both i off (over i j j_high j_in low can on))
    ]
    | inr high ↦ elim (cases_lt j first) [
      | inl j_low ↦ inr (inl (high, j_low))
      | inr j_high ↦ elim (cases_lt i j) [
        | inl less ↦ inl (high, less)
        | inr more ↦ elim (cases_eq i j) [
          | inl same ↦ absurd (not_both i off (ap (λ (k : ℕ). get_or closed k true) same ∙ on))
          | inr apart ↦ absurd (not_both i off (ahead i j j_high (omega (arith, more, apart)) i_in can on))
        ]
      ]
    ]
  ]

  pub comes_later : (i j : ℕ) → i < n → j < n → get_or closed i true ≡ false → able j ≡ true → get_or closed j true ≡ true → queues_before n turn i < queues_before n turn j
  comes_later i j i_in j_in off can on = elim (is_after i j i_in j_in off can on) [
    | inl both ↦ omega (arith, before_ahead n turn first i start both.0, before_ahead n turn first j start (omega (arith, both.0, both.1)), both.0, both.1)
    | inr (inl both) ↦ omega (arith, before_ahead n turn first i start both.0, before_behind n turn first j start both.1, both.0, both.1, i_in, lt)
    | inr (inr both) ↦ omega (arith, before_behind n turn first i start (omega (arith, both.0, both.1)), before_behind n turn first j start both.1, both.0, both.1)
  ]

  -- The turn after the pass.
  module _ (mid next : ℕ) (once : IsTurnAfter closed first n turn mid) (twice : IsTurnAfter closed 0 first mid next) where
    -- All chosen ones are at or before the last one in the order, and that is before the new turn.
    abbrev IsNextTurn : Type 0
    IsNextTurn = ((last : ℕ) × (last < first) × (get_or closed last true ≡ false) × (next % n ≡ last + 1) × ((i : ℕ) → i < n → get_or closed i true ≡ false → (first ≤ i) ⊎ (i ≤ last)))
        ⊎ ((last : ℕ) × (first ≤ last) × (last < n) × (get_or closed last true ≡ false) × (next ≡ last + 1) × ((i : ℕ) → i < n → get_or closed i true ≡ false → (first ≤ i) × (i ≤ last)))

    high : (i last : ℕ) → get_or closed i true ≡ false → (last + 1 ≤ i → get_or closed i true ≡ true) → i ≤ last
    high i last off on = elim (cases_lt last i) [
      | inl more ↦ absurd (not_both i off (on (omega (arith, more))))
      | inr le ↦ le
    ]

    next_turn : (i : ℕ) → i < n → get_or closed i true ≡ false → IsNextTurn
    next_turn i i_in off = elim twice [
      | inr (last, (from, low, is, none), at) ↦ inl (
        last,
        low,
        is,
        ap (λ (k : ℕ). k % n) at ∙ mod-eq_of_lt (omega (arith, low, lt)),
        λ k k_in k_off. elim (cases_lt k first) [
          | inl k_low ↦ inr (high k last k_off (λ more. none k more k_low))
          | inr k_high ↦ inl k_high
        ],
      )
      | inl (none, same) ↦ elim once [
        | inr (last, (from, low, is, ons), at) ↦ inr (
          last,
          from,
          low,
          is,
          same ∙ at,
          λ k k_in k_off. elim (cases_lt k first) [
            | inl k_low ↦ absurd (not_both k k_off (none k (omega arith) k_low))
            | inr k_high ↦ (k_high, high k last k_off (λ more. ons k more k_in))
          ],
        )
        | inl (ons, kept) ↦ elim (cases_lt i first) [
          | inl i_low ↦ absurd (not_both i off (none i (omega arith) i_low))
          | inr i_high ↦ absurd (not_both i off (ons i i_high i_in))
        ]
      ]
    ]

    abbrev IsNearer : ℕ → ℕ → Type 0
    IsNearer i j = (queues_before n next j < queues_before n next i) × (queues_before n next j < queues_before n turn j)

    wraps : (last : ℕ) → next ≡ last + 1 → last < n → ((last + 1 < n) × (next % n ≡ last + 1)) ⊎ ((last + 1 ≡ n) × (next % n ≡ 0))
    wraps last is low = elim (cases_lt (last + 1) n) [
      | inl less ↦ inl (less, ap (λ (k : ℕ). k % n) is ∙ mod-eq_of_lt less)
      | inr more ↦ let all : last + 1 ≡ n = omega (arith, more, low) in inr (all, ap (λ (k : ℕ). k % n) (is ∙ all) ∙ mod_self n)
    ]

    pub comes_first : (i j : ℕ) → i < n → j < n → get_or closed i true ≡ false → able j ≡ true → get_or closed j true ≡ true → IsNearer i j
    comes_first i j i_in j_in off can on = elim (next_turn i i_in off) [
      | inl (last, low, is, turns, each) ↦ elim (is_after last j (omega (arith, low, lt)) j_in is can on) [
        | inl wrong ↦ absurd (omega (arith, wrong.0, low))
        | inr (inl wrong) ↦ absurd (omega (arith, wrong.0, low))
        | inr (inr after) ↦
            let here = before_ahead n next (last + 1) j turns (omega (arith, after.0)) in
            let was = before_behind n turn first j start after.1 in
            elim (each i i_in off) [
              | inl i_high ↦ let there = before_ahead n next (last + 1) i turns (omega (arith, i_high, low)) in (omega (arith, here, there, after.0, after.1, i_high), omega (arith, here, was, after.0, lt))
              | inr i_low ↦ let there = before_behind n next (last + 1) i turns (omega (arith, i_low)) in (omega (arith, here, there, after.0, j_in, low, lt), omega (arith, here, was, after.0, lt))
            ]
      ]
      | inr (last, from, low, is, at, each) ↦
          let (i_high, i_low) = each i i_in off in
          elim (wraps last at low) [
            | inl (less, turns) ↦
                let there = before_behind n next (last + 1) i turns (omega (arith, i_low)) in
                elim (is_after last j low j_in is can on) [
                  | inl after ↦
                      let here = before_ahead n next (last + 1) j turns (omega (arith, after.1)) in
                      let was = before_ahead n turn first j start (omega (arith, from, after.1)) in
                      (omega (arith, here, there, after.1, j_in, less), omega (arith, here, was, after.1, from))
                  | inr (inl after) ↦
                      let here = before_behind n next (last + 1) j turns (omega (arith, after.1, from)) in
                      let was = before_behind n turn first j start after.1 in
                      (omega (arith, here, there, after.1, i_high), omega (arith, here, was, from, less))
                  | inr (inr wrong) ↦ absurd (omega (arith, wrong.0, wrong.1, from))
                ]
            | inr (all, turns) ↦
                let there = before_ahead n next 0 i turns (omega arith) in
                let here = before_ahead n next 0 j turns (omega arith) in
                elim (is_after last j low j_in is can on) [
                  | inl wrong ↦ absurd (omega (arith, wrong.1, all, j_in))
                  | inr (inl after) ↦
                      let was = before_behind n turn first j start after.1 in
                      (omega (arith, here, there, after.1, i_high), omega (arith, here, was, after.1, lt))
                  | inr (inr wrong) ↦ absurd (omega (arith, wrong.0, wrong.1, from))
                ]
          ]
    ]

    -- If none was chosen, the turn stays.
    pub turn_stays : ((i : ℕ) → i < n → get_or closed i true ≡ true) → next ≡ turn
    turn_stays ons = elim twice [
      | inr (last, (from, low, is, none), at) ↦ absurd (not_both last is (ons last (omega (arith, low, lt))))
      | inl (none, same) ↦ elim once [
        | inr (last, (from, low, is, none_1), at) ↦ absurd (not_both last is (ons last low))
        | inl (none_1, kept) ↦ same ∙ kept
      ]
    ]

-- One more flag that is on.
pub one_more : (flags : List Bool) (from at before turn : ℕ) → get_or flags at true ≡ true → IsTurnAfter flags from at before turn → IsTurnAfter flags from (at + 1) before turn
one_more flags from at before turn on (inl (ons, same)) = inl (
  λ i low high. elim (cases_eq i at) [
    | inl here ↦ ap (λ (k : ℕ). get_or flags k true) here ∙ on
    | inr apart ↦ ons i low (omega (arith, high, apart))
  ],
  same,
)
one_more flags from at before turn on (inr (last, (low, less, off, ons), is)) = inr (
  last,
  (
    low,
    omega (arith, less),
    off,
    λ i more high. elim (cases_eq i at) [
      | inl here ↦ ap (λ (k : ℕ). get_or flags k true) here ∙ on
      | inr apart ↦ ons i more (omega (arith, high, apart))
    ],
  ),
  is,
)

-- If each free queue may start a job, none is left out.
pub kept_turn : (turn : ℕ) (s : State) (slots : Slots) (flags : List Bool) → flags ≡ blocked_flags s slots → length flags ≡ length (finite.keys s.queues) → AreInTurn turn turn s slots (unblocked flags (finite.keys s.queues))
kept_turn turn s slots flags are long = record {
  closed = flags;
  count = long;
  are = refl;
  later = λ i j off out. absurd (none j out);
  first = λ i j off out. absurd (none j out);
  nearer = λ i j off out. absurd (none j out);
  stays = λ _. refl;
}
  where
    none : (j : ℕ) → IsLeftOut s slots flags j → ⊥
    none j (lt, can, on) =
        let both : false ≡ true = sym (ap (λ (b : Bool). not b && has_next s (get_or (finite.keys s.queues) j [])) (ap (λ (fs : List Bool). get_or fs j true) (sym are) ∙ on)) ∙ can in
        absurd (cc)

-- If no queue is chosen, each flag is on.
all_on : (flags : List Bool) (names : List (List ℕ)) → length flags ≡ length names → unblocked flags names ≡ [] → (i : ℕ) → get_or flags i true ≡ true
all_on [] names long none i = refl
all_on (f ∷ fs) [] long none i = absurd (omega (arith, long))
all_on (f ∷ fs) (n ∷ ns) long none i = by_flag f i none (λ still k. all_on fs ns (omega (arith, long)) still k)
  where
    by_flag : (b : Bool) (i : ℕ) → cond b (unblocked fs ns) (n ∷ unblocked fs ns) ≡ [] → (unblocked fs ns ≡ [] → (k : ℕ) → get_or fs k true ≡ true) → get_or (b ∷ fs) i true ≡ true
    by_flag true zero none rest = refl
    by_flag true (suc i) none rest = rest none i
    by_flag false i none rest = absurd (cc (none))

-- Without a flag there is no queue.
within_flags : (flags : List Bool) (i : ℕ) → get_or flags i true ≡ false → i < length flags
within_flags [] i off = let both : true ≡ false = off in absurd (cc)
within_flags (f ∷ fs) zero off = omega arith
within_flags (f ∷ fs) (suc i) off = let rest = within_flags fs i off in omega (arith, rest)

-- The queues were opened from `first` on, as long as there was room, and then the queues before it.
module _ (n first turn mid next left : ℕ) (s : State) (slots : Slots) (opened closed : List Bool) (queues : n ≡ length (finite.keys s.queues)) (lt : first < n) (start : turn % n ≡ first) (long : length closed ≡ n)
    (before : (i : ℕ) → i < first → get_or opened i true ≡ true)
    (ahead : (i j : ℕ) → first ≤ j → j < i → i < n → can_start s (blocked_flags s slots) j ≡ true → get_or opened j true ≡ true → get_or opened i true ≡ true)
    (all : 0 < left → (j : ℕ) → first ≤ j → j < n → can_start s (blocked_flags s slots) j ≡ true → get_or opened j true ≡ false)
    (behind : (i j : ℕ) → j < i → i < first → can_start s (blocked_flags s slots) j ≡ true → get_or closed j true ≡ true → get_or closed i true ≡ true)
    (none : left ≡ 0 → closed ≡ opened) (stay : (i : ℕ) → first ≤ i → get_or closed i true ≡ get_or opened i true)
    (once : IsTurnAfter closed first n turn mid) (twice : IsTurnAfter closed 0 first mid next) where
  abbrev able : ℕ → Bool
  able = can_start s (blocked_flags s slots)

  ahead_closed : (i j : ℕ) → first ≤ j → j < i → i < n → able j ≡ true → get_or closed j true ≡ true → get_or closed i true ≡ true
  ahead_closed i j low less high can on = stay i (omega (arith, low, less)) ∙ ahead i j low less high can (sym (stay j low) ∙ on)

  over : (i j : ℕ) → first ≤ j → j < n → i < first → able j ≡ true → get_or closed j true ≡ true → get_or closed i true ≡ true
  over i j low high i_low can on = elim (cases_eq left 0) [
    | inl empty ↦ ap (λ (fs : List Bool). get_or fs i true) (none empty) ∙ before i i_low
    | inr some ↦ let both : true ≡ false = sym (sym (stay j low) ∙ on) ∙ all (omega (arith, some)) j low high can in absurd (cc)
  ]

  inside : (i : ℕ) → get_or closed i true ≡ false → i < n
  inside i off = omega (arith, within_flags closed i off, long)

  pub in_turn : AreInTurn turn next s slots (unblocked closed (finite.keys s.queues))
  in_turn = record {
    closed = closed;
    count = long ∙ queues;
    are = refl;
    later = λ i j off out. subst (λ (m : ℕ). queues_before m turn i < queues_before m turn j) queues
        (comes_later n first turn closed able lt start ahead_closed behind over i j (inside i off) (omega (arith, out.0, queues)) off out.1 out.2);
    first = λ i j off out. subst (λ (m : ℕ). queues_before m next j < queues_before m next i) queues
        (comes_first n first turn closed able lt start ahead_closed behind over mid next once twice i j (inside i off) (omega (arith, out.0, queues)) off out.1 out.2).0;
    nearer = λ i j off out. subst (λ (m : ℕ). queues_before m next j < queues_before m turn j) queues
        (comes_first n first turn closed able lt start ahead_closed behind over mid next once twice i j (inside i off) (omega (arith, out.0, queues)) off out.1 out.2).1;
    stays = λ nothing. turn_stays n first turn closed able lt start ahead_closed behind over mid next once twice (λ i high. all_on closed (finite.keys s.queues) (long ∙ queues) nothing i);
  }

-- A pass that did nothing has no queues, and the turn stays.
pub no_turn : (turn : ℕ) (s : State) (slots : Slots) → AreInTurn turn turn s slots []
no_turn turn s slots = record {
  closed = map (λ _. true) (finite.keys s.queues);
  count = length-map (finite.keys s.queues) (λ _. true);
  are = sym (nothing_open (finite.keys s.queues));
  later = λ i j off out. absurd (not_open (finite.keys s.queues) i off);
  first = λ i j off out. absurd (not_open (finite.keys s.queues) i off);
  nearer = λ i j off out. absurd (not_open (finite.keys s.queues) i off);
  stays = λ _. refl;
}
  where
    nothing_open : (names : List (List ℕ)) → unblocked (map (λ _. true) names) names ≡ []
    nothing_open [] = refl
    nothing_open (n ∷ ns) = nothing_open ns

    not_open : (names : List (List ℕ)) (i : ℕ) → get_or (map (λ _. true) names) i true ≡ false → ⊥
    not_open [] i off = let both : true ≡ false = off in absurd (cc)
    not_open (n ∷ ns) zero off = let both : true ≡ false = off in absurd (cc)
    not_open (n ∷ ns) (suc i) off = not_open ns i off
