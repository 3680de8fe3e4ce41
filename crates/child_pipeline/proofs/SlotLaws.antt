-- The slots of a runner, as a map from the jobs' numbers.
use Rattle.std.proofs.Common.{◌≡◌, ◌≢◌, ◌⊎◌, inl, inr, ℕ, Bool, true, false, cond, List, [], ◌∷◌, map, Option, Some, None, refl, sym, ap, subst, ◌∙◌}
use Rattle.std.specs.Option.{option_map, is_some, IsSome}
use Rattle.std.specs.Prelude.{unwrap_or}
use Rattle.std.specs.Ordering.{nat_cmp, is_eq, eq_by_cmp}
use Rattle.std.specs.Cmp.{nat_cmp_total, eq_by_cmp_equiv, Equal-is}
use Rattle.std.specs.Map.{lookup}
use Rattle.std.specs.BTreeMap.{is_at}
use Rattle.std.specs.FinMap as finite
use Rattle.std.specs.FinMap.Entries.{find}
use Rattle.std.proofs.lemmas.Bool.Decides.{eqb_tells}
use Rattle.slab.specs.Slab.{Slab, get, Updates}
use Rattle.child_pipeline.specs.RunnerFields.{slots_of, slot_at, key_in, AreKept}
use Rattle.child_pipeline.specs.StageSlots.{Slots, numbered, begun}
use Rattle.child_pipeline.specs.declared.runner.Slot.{Slot}

tied : (k q : ℕ) → is_eq (nat_cmp k q) ≡ is_eq (nat_cmp q k)
tied k q = (eq_by_cmp_equiv nat_cmp_total).symm k q

own_number : (j : ℕ) → is_eq (nat_cmp j j) ≡ true
own_number j = (eq_by_cmp_equiv nat_cmp_total).refl j

other_number : (q j : ℕ) → q ≢ j → (b : Bool) → is_eq (nat_cmp q j) ≡ b → b ≡ false
other_number q j other true is = absurd (other (finite.nat_cmp-IsAntisymmetric q j ((Equal-is (nat_cmp q j)).0 is)))
other_number q j other false is = refl

-- The keys change at one job.
pub own_key : (es fs : List (ℕ × ℕ)) (j : ℕ) (o : Option ℕ) → ((q : ℕ) → key_in fs q ≡ cond (is_eq (nat_cmp j q)) o (key_in es q)) → key_in fs j ≡ o
own_key es fs j o updated = updated j ∙ ap (λ b. cond b o (key_in es j)) (own_number j)

pub other_key : (es fs : List (ℕ × ℕ)) (j : ℕ) (o : Option ℕ) → ((q : ℕ) → key_in fs q ≡ cond (is_eq (nat_cmp j q)) o (key_in es q)) → (q : ℕ) → q ≢ j → key_in fs q ≡ key_in es q
other_key es fs j o updated q other = updated q ∙ ap (λ b. cond b o (key_in es q)) (tied j q ∙ other_number q j other _ refl)

-- A job without a key.
pub no_key : (es : List (ℕ × ℕ)) (j : ℕ) → is_some (key_in es j) ≡ false → key_in es j ≡ None
no_key es j = of (key_in es j)
  where
    of : (o : Option ℕ) → is_some o ≡ false → o ≡ None
    of None is = refl
    of (Some k) is = absurd (cc)

module _ {T : Type 0} where
  -- No other job has the key of this one.
  pub own_alone : (es : List (ℕ × ℕ)) (s : Slab (Slot T)) (j k : ℕ) → AreKept es s → key_in es j ≡ Some k → (q h : ℕ) → q ≢ j → key_in es q ≡ Some h → h ≢ k
  own_alone es s j k kept own q h other there same = other (kept.apart q j h there (own ∙ ap Some (sym same)))

  -- No job has a vacant key.
  pub vacant_alone : (es : List (ℕ × ℕ)) (s : Slab (Slot T)) (k : ℕ) → AreKept es s → get s k ≡ None → (q h : ℕ) → key_in es q ≡ Some h → h ≢ k
  vacant_alone es s k kept vacant q h there same =
      let gone : get s h ≡ None = ap (get s) same ∙ vacant in
      let both : true ≡ false = sym (kept.there q h there) ∙ ap is_some gone in
      absurd (cc)

  -- The job's key has a slot now, and the others still have theirs.
  pub still_kept : (es fs : List (ℕ × ℕ)) (s s' : Slab (Slot T)) (j k : ℕ) → AreKept es s → key_in es j ≡ None → key_in fs j ≡ Some k → IsSome (get s' k) → ((q : ℕ) → q ≢ j → key_in fs q ≡ key_in es q) → ((q h : ℕ) → q ≢ j → key_in es q ≡ Some h → h ≢ k) → ((h : ℕ) → h ≢ k → get s' h ≡ get s h) → AreKept fs s'
  still_kept es fs s s' j k kept new own there others alone same = record {
    there = λ q h is. elim (eqb_tells q j) [
      | inl (e, at) ↦ subst (λ o. IsSome (get s' (unwrap_or o k))) (sym own ∙ ap (key_in fs) (sym at) ∙ is) there
      | inr (e, other) ↦ let before : key_in es q ≡ Some h = sym (others q other) ∙ is in subst IsSome (sym (same h (alone q h other before))) (kept.there q h before)
    ];
    apart = λ i q h is is'. elim (eqb_tells i j) [
      | inl (e, at) ↦ elim (eqb_tells q j) [
        | inl (e', at') ↦ at ∙ sym at'
        | inr (e', other) ↦ absurd (alone q h other (sym (others q other) ∙ is') (let both : Some h ≡ Some k = sym is ∙ ap (key_in fs) at ∙ own in cc))
      ]
      | inr (e, other) ↦ elim (eqb_tells q j) [
        | inl (e', at') ↦ absurd (alone i h other (sym (others i other) ∙ is) (let both : Some h ≡ Some k = sym is' ∙ ap (key_in fs) at' ∙ own in cc))
        | inr (e', other') ↦ kept.apart i q h (sym (others i other) ∙ is) (sym (others q other') ∙ is')
      ]
    ];
    owned = λ h is. elim (eqb_tells h k) [
      | inl (e, at) ↦ (j, own ∙ ap Some (sym at))
      | inr (e, other) ↦
          let (q, has) = kept.owned h (subst IsSome (same h other) is) in
          (q, others q (λ at. let both : None ≡ Some h = sym new ∙ ap (key_in es) (sym at) ∙ has in absurd (cc)) ∙ has)
    ];
  }

  -- A job's slot is replaced.
  pub kept_exchanged : (es : List (ℕ × ℕ)) (s s' : Slab (Slot T)) (k : ℕ) → AreKept es s → IsSome (get s k) → IsSome (get s' k) → ((h : ℕ) → h ≢ k → get s' h ≡ get s h) → AreKept es s'
  kept_exchanged es s s' k kept had there same = record {
    there = λ q h is. elim (eqb_tells h k) [
      | inl (e, at) ↦ subst (λ n. IsSome (get s' n)) (sym at) there
      | inr (e, other) ↦ subst IsSome (sym (same h other)) (kept.there q h is)
    ];
    apart = kept.apart;
    owned = λ h is. elim (eqb_tells h k) [
      | inl (e, at) ↦ kept.owned h (subst (λ n. IsSome (get s n)) (sym at) had)
      | inr (e, other) ↦ kept.owned h (subst IsSome (same h other) is)
    ];
  }

  -- The job's key and its slot are removed.
  pub kept_released : (es fs : List (ℕ × ℕ)) (s s' : Slab (Slot T)) (j k : ℕ) → AreKept es s → key_in es j ≡ Some k → ((q : ℕ) → key_in fs q ≡ cond (is_eq (nat_cmp j q)) None (key_in es q)) → Updates s s' k None → AreKept fs s'
  kept_released es fs s s' j k kept own updated updates = record {
    there = λ q h is. elim (eqb_tells q j) [
      | inl (e, at) ↦ absurd (let both : None ≡ Some h = sym none ∙ ap (key_in fs) (sym at) ∙ is in cc)
      | inr (e, other) ↦
          let before : key_in es q ≡ Some h = sym (others q other) ∙ is in
          subst IsSome (sym (updates.others h (own_alone es s j k kept own q h other before))) (kept.there q h before)
    ];
    apart = λ i q h is is'. elim (eqb_tells i j) [
      | inl (e, at) ↦ absurd (let both : None ≡ Some h = sym none ∙ ap (key_in fs) (sym at) ∙ is in cc)
      | inr (e, other) ↦ elim (eqb_tells q j) [
        | inl (e', at') ↦ absurd (let both : None ≡ Some h = sym none ∙ ap (key_in fs) (sym at') ∙ is' in cc)
        | inr (e', other') ↦ kept.apart i q h (sym (others i other) ∙ is) (sym (others q other') ∙ is')
      ]
    ];
    owned = λ h is. elim (eqb_tells h k) [
      | inl (e, at) ↦ absurd (let both : true ≡ false = sym is ∙ ap (λ n. is_some (get s' n)) at ∙ ap is_some updates.changed in cc)
      | inr (e, other) ↦
          let (q, has) = kept.owned h (subst IsSome (updates.others h other) is) in
          (q, others q (λ at. other (let both : Some h ≡ Some k = sym has ∙ ap (key_in es) at ∙ own in cc)) ∙ has)
    ];
  }
    where
      none : key_in fs j ≡ None
      none = own_key es fs j None updated

      others : (q : ℕ) → q ≢ j → key_in fs q ≡ key_in es q
      others = other_key es fs j None updated

module _ {T : Type 0} (number : T → ℕ) where
  mapped : {X : Type 0} (f : X → Slot ℕ) (b : Bool) (x : X) (o : Option X) → cond b (Some (f x)) (option_map f o) ≡ option_map f (cond b (Some x) o)
  mapped f true x o = refl
  mapped f false x o = refl

  found : (q : ℕ) (es : List (ℕ × ℕ)) (s : Slab (Slot T)) → find nat_cmp q (map (λ e. (e.0, slot_at number s e.1)) es) ≡ option_map (slot_at number s) (key_in es q)
  found q [] s = refl
  found q (e ∷ es) s = ap (λ o. cond (is_eq (nat_cmp q e.0)) (Some (slot_at number s e.1)) o) (found q es s) ∙ mapped (slot_at number s) (is_eq (nat_cmp q e.0)) e.1 (key_in es q)

  pub get_slots : (es : List (ℕ × ℕ)) (s : Slab (Slot T)) (q : ℕ) → finite.get (slots_of number es s) q ≡ option_map (slot_at number s) (key_in es q)
  get_slots es s q = finite.get-from_entries nat_cmp_total (map (λ e. (e.0, slot_at number s e.1)) es) q ∙ found q es s

  some_mapped : {X : Type 0} (f : X → Slot ℕ) (o : Option X) → is_some (option_map f o) ≡ is_some o
  some_mapped f None = refl
  some_mapped f (Some x) = refl

  pub has_slot : (es : List (ℕ × ℕ)) (s : Slab (Slot T)) (m : Slots) → slots_of number es s ≡ m → (q : ℕ) → is_some (finite.get m q) ≡ is_some (key_in es q)
  has_slot es s m is q = ap (λ n. is_some (finite.get n q)) (sym is) ∙ ap is_some (get_slots es s q) ∙ some_mapped (slot_at number s) (key_in es q)

  same_under : (s s' : Slab (Slot T)) (o : Option ℕ) → ((h : ℕ) → o ≡ Some h → get s' h ≡ get s h) → option_map (slot_at number s') o ≡ option_map (slot_at number s) o
  same_under s s' None same = refl
  same_under s s' (Some h) same = ap (λ x. Some (unwrap_or (option_map (numbered number) x) (begun 0 0))) (same h refl)

  -- The job's key has this slot now, and the others still have theirs.
  pub inserted : (es fs : List (ℕ × ℕ)) (s s' : Slab (Slot T)) (j k : ℕ) (x : Slot T) → key_in fs j ≡ Some k → get s' k ≡ Some x → ((q : ℕ) → q ≢ j → key_in fs q ≡ key_in es q) → ((q h : ℕ) → q ≢ j → key_in es q ≡ Some h → get s' h ≡ get s h) → slots_of number fs s' ≡ finite.insert (slots_of number es s) j (numbered number x)
  inserted es fs s s' j k x own there others same =
      finite.same_map nat_cmp_total finite.nat_cmp-IsAntisymmetric (slots_of number fs s') (finite.insert (slots_of number es s) j (numbered number x)) (λ q.
      get_slots fs s' q ∙ at q ∙ sym (finite.get-insert nat_cmp_total (slots_of number es s) j (numbered number x) q))
    where
      at : (q : ℕ) → option_map (slot_at number s') (key_in fs q) ≡ cond (eq_by_cmp nat_cmp q j) (Some (numbered number x)) (finite.get (slots_of number es s) q)
      at q = elim (eqb_tells q j) [
        | inl (e, is) ↦
            ap (λ n. option_map (slot_at number s') (key_in fs n)) is
            ∙ ap (option_map (slot_at number s')) own
            ∙ ap (λ o. Some (unwrap_or (option_map (numbered number) o) (begun 0 0))) there
            ∙ sym (ap (λ b. cond b (Some (numbered number x)) (finite.get (slots_of number es s) q)) (ap (λ n. is_eq (nat_cmp n j)) is ∙ own_number j))
        | inr (e, other) ↦
            ap (option_map (slot_at number s')) (others q other)
            ∙ same_under s s' (key_in es q) (λ h is. same q h other is)
            ∙ sym (get_slots es s q)
            ∙ sym (ap (λ b. cond b (Some (numbered number x)) (finite.get (slots_of number es s) q)) (other_number q j other _ refl))
      ]

  -- The job has no key any more.
  pub removed : (es fs : List (ℕ × ℕ)) (s s' : Slab (Slot T)) (j : ℕ) → key_in fs j ≡ None → ((q : ℕ) → q ≢ j → key_in fs q ≡ key_in es q) → ((q h : ℕ) → q ≢ j → key_in es q ≡ Some h → get s' h ≡ get s h) → slots_of number fs s' ≡ finite.remove (slots_of number es s) j
  removed es fs s s' j none others same =
      finite.same_map nat_cmp_total finite.nat_cmp-IsAntisymmetric (slots_of number fs s') (finite.remove (slots_of number es s) j) (λ q.
      get_slots fs s' q ∙ at q ∙ sym (finite.get-remove nat_cmp_total (slots_of number es s) j q))
    where
      at : (q : ℕ) → option_map (slot_at number s') (key_in fs q) ≡ cond (eq_by_cmp nat_cmp q j) None (finite.get (slots_of number es s) q)
      at q = elim (eqb_tells q j) [
        | inl (e, is) ↦
            ap (λ n. option_map (slot_at number s') (key_in fs n)) is
            ∙ ap (option_map (slot_at number s')) none
            ∙ sym (ap (λ b. cond b None (finite.get (slots_of number es s) q)) (ap (λ n. is_eq (nat_cmp n j)) is ∙ own_number j))
        | inr (e, other) ↦
            ap (option_map (slot_at number s')) (others q other)
            ∙ same_under s s' (key_in es q) (λ h is. same q h other is)
            ∙ sym (get_slots es s q)
            ∙ sym (ap (λ b. cond b None (finite.get (slots_of number es s) q)) (other_number q j other _ refl))
      ]

  -- The same keys of the same slots.
  pub same_slots : (es : List (ℕ × ℕ)) (s s' : Slab (Slot T)) → ((h : ℕ) → get s' h ≡ get s h) → slots_of number es s' ≡ slots_of number es s
  same_slots es s s' same =
      finite.same_map nat_cmp_total finite.nat_cmp-IsAntisymmetric (slots_of number es s') (slots_of number es s) (λ q.
      get_slots es s' q ∙ same_under s s' (key_in es q) (λ h is. same h) ∙ sym (get_slots es s q))

  pub no_slot : (es : List (ℕ × ℕ)) (s : Slab (Slot T)) (m : Slots) (j : ℕ) → slots_of number es s ≡ m → key_in es j ≡ None → ¬ (IsSome (finite.get m j))
  no_slot es s m j is none there =
      let gone : finite.get m j ≡ None = ap (λ n. finite.get n j) (sym is) ∙ get_slots es s j ∙ ap (option_map (slot_at number s)) none in
      let both : true ≡ false = sym there ∙ ap is_some gone in
      absurd (cc)

  -- The slot under a key that exists.
  pub shown : (s : Slab (Slot T)) (k : ℕ) → IsSome (get s k) → option_map (numbered number) (get s k) ≡ Some (slot_at number s k)
  shown s k there = shown_of (get s k) there
    where
      shown_of : (o : Option (Slot T)) → IsSome o → option_map (numbered number) o ≡ Some (unwrap_or (option_map (numbered number) o) (begun 0 0))
      shown_of None there = absurd (cc)
      shown_of (Some x) there = refl

  -- The slot of a job that has a key.
  pub slot_there : (es : List (ℕ × ℕ)) (s : Slab (Slot T)) (m : Slots) (j k : ℕ) (x : Slot T) → slots_of number es s ≡ m → key_in es j ≡ Some k → get s k ≡ Some x → Some (numbered number x) ≡ finite.get m j
  slot_there es s m j k x is own there =
      sym (ap (λ o. Some (unwrap_or (option_map (numbered number) o) (begun 0 0))) there)
      ∙ sym (ap (option_map (slot_at number s)) own)
      ∙ sym (get_slots es s j)
      ∙ ap (λ n. finite.get n j) is
