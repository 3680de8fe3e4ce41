-- Slots in order, and the entries that were not removed.
use Rattle.std.proofs.Common.{◌≡◌, ℕ, zero, suc, ◌<◌, ◌≤◌, ◌⊎◌, Bool, true, false, not, cond, ◌&&◌, List, [], ◌∷◌, ◌++◌, length, map, set, take, drop, get_or, Some, None, slice_get, refl, sym, ap, subst, ◌∙◌, arith, drop-cons, IsTrue}
use Rattle.std.proofs.Math.Logic.{⊎_elim}
use Rattle.std.proofs.lemmas.Bool.{both_ways, cases_order, true_from_ne_false}
use Rattle.std.proofs.lemmas.List.{take-append-drop, get_or_default, get_or-map, get_or-set_same, get_or-set_other, length-set, length-map, map-append, set_split}
use Rattle.std.proofs.lemmas.List.Elements.{filter-append, Contains-append_left, Contains-append_right, Contains-append_cases, Contains-push}
use Rattle.std.proofs.lemmas.List.Kept.{AllPairs-filter}
use Rattle.std.proofs.lemmas.List.Sums.{length-filter, count_by-le-length}
use Rattle.std.specs.List.{AllWithin, Contains, filter, insert}
use Rattle.std.specs.List.Sorted.{IsPartitionedBy}
use Rattle.queue_sched.specs.WaitingIndex.{goes_before, InOrder, LacksJob}
use Rattle.queue_sched.specs.Next.{goes_first}
use Rattle.queue_sched.specs.OrderSlots.{is_there, items_of, there_of, InSlotOrder, IsFirstThere}
use Rattle.queue_sched.specs.OrderedEntries.{IsMore, IsExchange}
use Rattle.queue_sched.specs.declared.entry.Entry.{Entry}
use Rattle.queue_sched.specs.declared.slots.Slot.{Slot}
use Rattle.queue_sched.proofs.Ordered as ordered
use Rattle.queue_sched.proofs.Ordered.{single}
use Rattle.queue_sched.proofs.TurnOrder.{itself, onward, not_onward, other_way}

abbrev entry_in : Slot → Entry
entry_in s = s.entry

-- The slot of a removed entry.
abbrev pub gone_of : Entry → Slot
gone_of e = record { entry = e; gone = true }

pub items_append : (ss ts : List Slot) → items_of (ss ++ ts) ≡ items_of ss ++ items_of ts
items_append ss ts = ap (map entry_in) (filter-append is_there ss ts) ∙ map-append entry_in (filter is_there ss) (filter is_there ts)

module _ (s : Slot) (ss : List Slot) where
  pub items_gone : s.gone ≡ true → items_of (s ∷ ss) ≡ items_of ss
  items_gone g = ap (λ b. map entry_in (cond (not b) (s ∷ filter is_there ss) (filter is_there ss))) g

  pub items_there : s.gone ≡ false → items_of (s ∷ ss) ≡ s.entry ∷ items_of ss
  items_there g = ap (λ b. map entry_in (cond (not b) (s ∷ filter is_there ss) (filter is_there ss))) g

  -- A slot with an entry that was not removed.
  pub is_that : s.gone ≡ false → (e : Entry) → e ≡ s.entry → s ≡ there_of e
  is_that g e same = ap (λ b. record { entry = s.entry; gone = b }) g ∙ ap there_of (sym same)

-- An entry that was not removed has a slot.
pub slot_of : (ss : List Slot) (e : Entry) → Contains (items_of ss) e → Contains ss (there_of e)
slot_of [] e there = absurd (omega (arith, there.1))
slot_of (s ∷ ss) e there = by (slot_of ss e) s.gone refl
  where
    by : (Contains (items_of ss) e → Contains ss (there_of e)) → (b : Bool) → s.gone ≡ b → Contains (s ∷ ss) (there_of e)
    by again true g = Contains-append_right (s ∷ []) ss (there_of e) (again (subst (λ l. Contains l e) (items_gone s ss g) there))
    by again false g =
        ⊎_elim
        (λ (one : Contains (s.entry ∷ []) e). subst (λ t. Contains (s ∷ ss) t) (is_that s ss g e (single s.entry e one)) (Contains-append_left (s ∷ []) ss s (Contains-push [] s)))
        (λ (rest : Contains (items_of ss) e). Contains-append_right (s ∷ []) ss (there_of e) (again rest))
        (Contains-append_cases (s.entry ∷ []) (items_of ss) e (subst (λ l. Contains l e) (items_there s ss g) there))

-- The entries before and after a slot.
module _ (ss : List Slot) (at : ℕ) (inside : at < length ss) where
  items_at : (s : Slot) → get_or ss at s ≡ s → items_of ss ≡ items_of (take at ss) ++ items_of (s ∷ drop (suc at) ss)
  items_at s here =
      ap items_of (sym (take-append-drop at ss) ∙ ap (λ l. take at ss ++ l) (drop-cons ss at s inside ∙ ap (λ t. t ∷ drop (suc at) ss) here))
      ∙ items_append (take at ss) (s ∷ drop (suc at) ss)

  items_set : (s : Slot) → items_of (set ss at s) ≡ items_of (take at ss) ++ items_of (s ∷ drop (suc at) ss)
  items_set s = ap items_of (set_split ss at s inside) ∙ items_append (take at ss) (s ∷ drop (suc at) ss)

  pub put_held : (s : Slot) (e : Entry) → get_or ss at s ≡ s → s.gone ≡ true → IsMore e (items_of ss) (items_of (set ss at (there_of e)))
  put_held s e here g = record {
    front = items_of (take at ss);
    back = items_of (drop (suc at) ss);
    less_is = items_at s here ∙ ap (λ l. items_of (take at ss) ++ l) (items_gone s (drop (suc at) ss) g);
    more_is = items_set (there_of e);
  }

  pub take_marked : (e : Entry) → get_or ss at (there_of e) ≡ there_of e → IsMore e (items_of (set ss at (gone_of e))) (items_of ss)
  take_marked e here = record {
    front = items_of (take at ss);
    back = items_of (drop (suc at) ss);
    less_is = items_set (gone_of e);
    more_is = items_at (there_of e) here;
  }

  pub exchanged : (from to : Entry) → get_or ss at (there_of from) ≡ there_of from → IsExchange from to (items_of ss) (items_of (set ss at (there_of to)))
  exchanged from to here = record {
    rest = items_of (take at ss) ++ items_of (drop (suc at) ss);
    was = record { front = items_of (take at ss); back = items_of (drop (suc at) ss); less_is = refl; more_is = items_at (there_of from) here };
    is = record { front = items_of (take at ss); back = items_of (drop (suc at) ss); less_is = refl; more_is = items_set (there_of to) };
  }

  -- A slot that is not gone has an entry of the list.
  pub has_item : (s : Slot) → get_or ss at s ≡ s → s.gone ≡ false → Contains (items_of ss) s.entry
  has_item s here g =
      subst (λ l. Contains l s.entry) (sym (items_at s here ∙ ap (λ l. items_of (take at ss) ++ l) (items_there s (drop (suc at) ss) g)))
      (Contains-append_right (items_of (take at ss)) (s.entry ∷ items_of (drop (suc at) ss)) s.entry
      (Contains-append_left (s.entry ∷ []) (items_of (drop (suc at) ss)) s.entry (Contains-push [] s.entry)))

pub put_open : (ss : List Slot) (at : ℕ) (e : Entry) → IsMore e (items_of ss) (items_of (insert ss at (there_of e)))
put_open ss at e = record {
  front = items_of (take at ss);
  back = items_of (drop at ss);
  less_is = ap items_of (sym (take-append-drop at ss)) ∙ items_append (take at ss) (drop at ss);
  more_is = items_append (take at ss) (there_of e ∷ drop at ss);
}

-- The order of the slots.
abbrev goes : Slot → Slot → Bool
goes s t = goes_before s.entry t.entry

goes_itself : (s : Slot) → goes s s ≡ false
goes_itself s = itself s.entry

goes_on : (s t u : Slot) → goes s t ≡ true → goes t u ≡ true → goes s u ≡ true
goes_on s t u = onward s.entry t.entry u.entry

module _ (ss : List Slot) (e : Entry) where
  abbrev pub AreBefore : ℕ → Type 0
  AreBefore at = AllWithin (λ s. goes_before s.entry e ≡ true) ss 0 at

  abbrev pub AreBehind : ℕ → Type 0
  AreBehind at = AllWithin (λ s. goes_before s.entry e ≡ false) ss at (length ss)

  -- Slots that come before an entry are before the others.
  pub parted : InSlotOrder ss → IsPartitionedBy (λ s. goes_before s.entry e) ss
  parted = ordered.parted goes goes_itself goes_on ss (there_of e)

  -- An entry that was not removed is at the position at which it would be inserted.
  pub stands : InSlotOrder ss → (at : ℕ) → at ≤ length ss → AreBefore at → AreBehind at → Contains (items_of ss) e → (at < length ss) × (get_or ss at (there_of e) ≡ there_of e)
  stands order at le before behind there =
      let slot = slot_of ss e there in
      let same : at ≡ slot.0 = ordered.place_at goes goes_itself goes_on ss (there_of e) order at le before behind slot in
      (omega (arith, same, slot.1), subst (λ n. get_or ss n (there_of e) ≡ there_of e) (sym same) slot.2)

  -- If the entry comes before the slot at its position, it comes before all later slots.
  pub goes_before_rest : InSlotOrder ss → (at : ℕ) → AreBefore at → (at < length ss → (d : Slot) → goes_before e (get_or ss at d).entry ≡ true) → (f : Slot) → Contains ss f → goes_before f.entry e ≡ false → goes_before e f.entry ≡ true
  goes_before_rest order at before next f there not_so =
      let k = there.0 in
      ⊎_elim
      (λ (same : k ≡ at).
      subst (λ (s : Slot). goes_before e s.entry ≡ true) (ap (λ n. get_or ss n f) (sym same) ∙ there.2) (next (omega (arith, same, there.1)) f))
      (λ other. ⊎_elim
      (λ (lt : k < at).
      absurd (both_ways (goes_before f.entry e) not_so (subst (λ (s : Slot). goes_before s.entry e ≡ true) there.2 (before k f (omega arith) lt))))
      (λ (gt : at < k).
      onward e (get_or ss at f).entry f.entry (next (omega (arith, gt, there.1)) f)
      (subst (λ (s : Slot). goes_before (get_or ss at f).entry s.entry ≡ true) there.2 (order at k f gt there.1)))
      other)
      (cases_order k at)

  pub order_open : InSlotOrder ss → (at : ℕ) → at ≤ length ss → AreBefore at → AreBehind at → (at < length ss → (d : Slot) → goes_before e (get_or ss at d).entry ≡ true) → InSlotOrder (insert ss at (there_of e))
  order_open order at le before behind next =
      ordered.in_order_insert goes goes_itself goes_on ss (there_of e) at le order (goes_before_rest order at before next) before behind

-- The slot at a position is replaced.
module _ (ss : List Slot) (at : ℕ) (s : Slot) (inside : at < length ss) (order : InSlotOrder ss) where
  pub order_set : ((k : ℕ) (d : Slot) → k < at → goes (get_or ss k d) s ≡ true) → ((k : ℕ) (d : Slot) → at < k → k < length ss → goes s (get_or ss k d) ≡ true) → InSlotOrder (set ss at s)
  order_set lower upper i j d lt within =
      let long : length (set ss at s) ≡ length ss = length-set ss at s in
      let far : j < length ss = omega (arith, within, long) in
      ⊎_elim
      (λ (same : i ≡ at).
      subst (λ t. goes t (get_or (set ss at s) j d) ≡ true) (sym (at_it i d same))
      (subst (λ t. goes s t ≡ true) (sym (get_or-set_other ss at j s d (λ e. absurd (omega (arith, e, same, lt))))) (upper j d (omega (arith, same, lt)) far)))
      (λ other. ⊎_elim
      (λ (low : i < at).
      subst (λ t. goes t (get_or (set ss at s) j d) ≡ true) (sym (get_or-set_other ss at i s d (λ e. absurd (omega (arith, e, low)))))
      (⊎_elim
      (λ (same : j ≡ at). subst (λ t. goes (get_or ss i d) t ≡ true) (sym (at_it j d same)) (lower i d low))
      (λ (differs : (j < at) ⊎ (at < j)).
      subst (λ t. goes (get_or ss i d) t ≡ true) (sym (get_or-set_other ss at j s d (apart j differs))) (order i j d lt far))
      (cases_order j at)))
      (λ (high : at < i).
      subst (λ t. goes t (get_or (set ss at s) j d) ≡ true) (sym (get_or-set_other ss at i s d (λ e. absurd (omega (arith, e, high)))))
      (subst (λ t. goes (get_or ss i d) t ≡ true) (sym (get_or-set_other ss at j s d (λ e. absurd (omega (arith, e, high, lt))))) (order i j d lt far)))
      other)
      (cases_order i at)
    where
      at_it : (k : ℕ) (d : Slot) → k ≡ at → get_or (set ss at s) k d ≡ s
      at_it k d same = ap (λ n. get_or (set ss at s) n d) same ∙ get_or-set_same ss at s d inside

      apart : (k : ℕ) → (k < at) ⊎ (at < k) → ¬ (k ≡ at)
      apart k differs same = ⊎_elim (λ (lt : k < at). absurd (omega (arith, lt, same))) (λ (gt : at < k). absurd (omega (arith, gt, same))) differs

  -- The two entries have the same order.
  pub order_same_turn : (t : Slot) → get_or ss at t ≡ t → s.entry.first ≡ t.entry.first → s.entry.priority ≡ t.entry.priority → s.entry.id ≡ t.entry.id → InSlotOrder (set ss at s)
  order_same_turn t here first priority id =
      order_set
      (λ k d lt. sym (after (get_or ss k d).entry) ∙ subst (λ u. goes (get_or ss k d) u ≡ true) (it d) (order k at d lt inside))
      (λ k d gt within. sym (before (get_or ss k d).entry) ∙ subst (λ u. goes u (get_or ss k d) ≡ true) (it d) (order at k d gt within))
    where
      it : (d : Slot) → get_or ss at d ≡ t
      it d = get_or_default ss at d t inside ∙ here

      after : (f : Entry) → goes_before f t.entry ≡ goes_before f s.entry
      after f = ap (λ b. goes_first f.first f.priority f.id b t.entry.priority t.entry.id) (sym first)
          ∙ ap (λ n. goes_first f.first f.priority f.id s.entry.first n t.entry.id) (sym priority)
          ∙ ap (λ n. goes_first f.first f.priority f.id s.entry.first s.entry.priority n) (sym id)

      before : (f : Entry) → goes_before t.entry f ≡ goes_before s.entry f
      before f = ap (λ b. goes_first b t.entry.priority t.entry.id f.first f.priority f.id) (sym first)
          ∙ ap (λ n. goes_first s.entry.first n t.entry.id f.first f.priority f.id) (sym priority)
          ∙ ap (λ n. goes_first s.entry.first s.entry.priority n f.first f.priority f.id) (sym id)

  -- An entry takes the slot at its position, if it does not come before it.
  pub order_held : AreBefore ss s.entry at → AreBehind ss s.entry at → InSlotOrder (set ss at s)
  order_held before behind =
      order_set
      (λ k d lt. before k d (omega arith) lt)
      (λ k d gt within. true_from_ne_false (goes s (get_or ss k d))
      (λ not_so. both_ways (goes (get_or ss at d) (get_or ss k d)) (not_onward (get_or ss at d).entry s.entry (get_or ss k d).entry (behind at d (omega arith) inside) not_so) (order at k d gt within)))

-- If an entry does not come before the slot at its position, that slot is gone and its entry has the same order.
pub is_gone : (ss : List Slot) (e : Entry) (at : ℕ) → at < length ss → LacksJob (items_of ss) e.id → AreBehind ss e at → ((d : Slot) → goes_before e (get_or ss at d).entry ≡ false) → (s : Slot) → get_or ss at s ≡ s → s.gone ≡ true
is_gone ss e at inside lacks behind not_so s here = by s.gone refl
  where
    by : (b : Bool) → s.gone ≡ b → s.gone ≡ true
    by true g = g
    by false g =
        absurd (both_ways (goes_before e s.entry) (subst (λ (t : Slot). goes_before e t.entry ≡ false) here (not_so s))
        (other_way e s.entry (λ same. lacks s.entry (has_item ss at inside s here g) (sym same)) (subst (λ (t : Slot). goes_before t.entry e ≡ false) here (behind at s (omega arith) inside))))

-- The entries that were not removed are in order.
pub items_in_order : (ss : List Slot) → InSlotOrder ss → InOrder (items_of ss)
items_in_order ss order i j d lt inside =
    let there = filter is_there ss in
    let within : j < length there = omega (arith, inside, length-map there entry_in) in
    subst (λ f. goes_before f (get_or (map entry_in there) j d) ≡ true) (sym (get_or-map entry_in there i (there_of d) d (omega arith)))
    (subst (λ f. goes_before (get_or there i (there_of d)).entry f ≡ true) (sym (get_or-map entry_in there j (there_of d) d within))
    (AllPairs-filter (λ s t. goes s t ≡ true) is_there ss order i j (there_of d) lt within))

-- The slots of a list of entries.
pub filled : (es : List Entry) → items_of (map there_of es) ≡ es
filled [] = refl
filled (e ∷ es) = ap (λ l. e ∷ l) (filled es)

pub filled_in_order : (es : List Entry) → InOrder es → InSlotOrder (map there_of es)
filled_in_order es order i j d lt inside =
    let within : j < length es = omega (arith, inside, length-map es there_of) in
    subst (λ s. goes s (get_or (map there_of es) j d) ≡ true) (sym (get_or-map there_of es i d.entry d (omega arith)))
    (subst (λ s. goes_before (get_or es i d.entry) s.entry ≡ true) (sym (get_or-map there_of es j d.entry d within)) (order i j d.entry lt within))

pub filled_first : (es : List Entry) → IsFirstThere (map there_of es)
filled_first [] = tt
filled_first (e ∷ es) = refl

-- The slots after all gone ones were deleted.
pub sweeps_twice : (ss : List Slot) → filter is_there (filter is_there ss) ≡ filter is_there ss
sweeps_twice [] = refl
sweeps_twice (s ∷ ss) = by (sweeps_twice ss) s.gone refl
  where
    by : filter is_there (filter is_there ss) ≡ filter is_there ss → (b : Bool) → s.gone ≡ b → filter is_there (cond (not b) (s ∷ filter is_there ss) (filter is_there ss)) ≡ cond (not b) (s ∷ filter is_there ss) (filter is_there ss)
    by again true g = again
    by again false g = ap (λ b. cond (not b) (s ∷ filter is_there (filter is_there ss)) (filter is_there (filter is_there ss))) g ∙ ap (λ l. s ∷ l) again

pub swept : (ss : List Slot) → items_of (filter is_there ss) ≡ items_of ss
swept ss = ap (map entry_in) (sweeps_twice ss)

pub swept_in_order : (ss : List Slot) → InSlotOrder ss → InSlotOrder (filter is_there ss)
swept_in_order ss order = AllPairs-filter (λ s t. IsTrue (goes s t)) is_there ss order

pub swept_count : (ss : List Slot) → length (filter is_there ss) ≡ length (items_of ss)
swept_count ss = sym (length-map (filter is_there ss) entry_in)

-- There are no more entries than slots.
pub few_items : (ss : List Slot) → length (items_of ss) ≤ length ss
few_items ss = omega (arith, length-map (filter is_there ss) entry_in, length-filter is_there ss, count_by-le-length is_there ss)

pub swept_first : (ss : List Slot) → IsFirstThere (filter is_there ss)
swept_first [] = tt
swept_first (s ∷ ss) = by (swept_first ss) s.gone refl
  where
    by : IsFirstThere (filter is_there ss) → (b : Bool) → s.gone ≡ b → IsFirstThere (cond (not b) (s ∷ filter is_there ss) (filter is_there ss))
    by again true g = again
    by again false g = g

-- The slots with entries that pass.
module _ (p : Entry → Bool) where
  abbrev pub passes : Slot → Bool
  passes s = is_there s && p s.entry

  pub picked : (ss : List Slot) → items_of (filter passes ss) ≡ filter p (items_of ss)
  picked [] = refl
  picked (s ∷ ss) = by (picked ss) s.gone (p s.entry) refl refl
    where
      by : items_of (filter passes ss) ≡ filter p (items_of ss) → (b c : Bool) → s.gone ≡ b → p s.entry ≡ c
          → items_of (cond (not b && c) (s ∷ filter passes ss) (filter passes ss)) ≡ filter p (map entry_in (cond (not b) (s ∷ filter is_there ss) (filter is_there ss)))
      by again true c g h = again
      by again false true g h =
          items_there s (filter passes ss) g ∙ ap (λ l. s.entry ∷ l) again ∙ ap (λ b. cond b (s.entry ∷ filter p (items_of ss)) (filter p (items_of ss))) (sym h)
      by again false false g h = again ∙ ap (λ b. cond b (s.entry ∷ filter p (items_of ss)) (filter p (items_of ss))) (sym h)

  pub picked_there : (ss : List Slot) → filter is_there (filter passes ss) ≡ filter passes ss
  picked_there [] = refl
  picked_there (s ∷ ss) = by (picked_there ss) s.gone (p s.entry) refl
    where
      by : filter is_there (filter passes ss) ≡ filter passes ss → (b c : Bool) → s.gone ≡ b → filter is_there (cond (not b && c) (s ∷ filter passes ss) (filter passes ss)) ≡ cond (not b && c) (s ∷ filter passes ss) (filter passes ss)
      by again true c g = again
      by again false true g = ap (λ b. cond (not b) (s ∷ filter is_there (filter passes ss)) (filter is_there (filter passes ss))) g ∙ ap (λ l. s ∷ l) again
      by again false false g = again

  pub picked_count : (ss : List Slot) → length (items_of (filter passes ss)) ≡ length (filter passes ss)
  picked_count ss = length-map (filter is_there (filter passes ss)) entry_in ∙ ap length (picked_there ss)

  pub picked_first : (ss : List Slot) → IsFirstThere (filter passes ss)
  picked_first [] = tt
  picked_first (s ∷ ss) = by (picked_first ss) s.gone (p s.entry) refl
    where
      by : IsFirstThere (filter passes ss) → (b c : Bool) → s.gone ≡ b → IsFirstThere (cond (not b && c) (s ∷ filter passes ss) (filter passes ss))
      by again true c g = again
      by again false true g = g
      by again false false g = again

  pub picked_in_order : (ss : List Slot) → InSlotOrder ss → InSlotOrder (filter passes ss)
  picked_in_order ss order = AllPairs-filter (λ s t. IsTrue (goes s t)) passes ss order

-- The first slot.
pub first_set : (ss : List Slot) (at : ℕ) (s : Slot) → s.gone ≡ false → IsFirstThere ss → IsFirstThere (set ss at s)
first_set [] at s g first = tt
first_set (t ∷ ss) zero s g first = g
first_set (t ∷ ss) (suc at) s g first = first

pub first_item : (ss : List Slot) (s : Slot) → IsFirstThere ss → 0 < length ss → s ≡ get_or ss 0 s → Some s.entry ≡ slice_get (items_of ss) 0
first_item [] s first inside is = absurd (omega (arith, inside))
first_item (t ∷ ss) s first inside is =
    ap (λ (u : Slot). Some u.entry) is ∙ ap (λ l. slice_get l 0) (sym (items_there t ss first))

pub first_none : (ss : List Slot) → length ss ≡ 0 → None ≡ slice_get (items_of ss) 0
first_none [] none = refl
first_none (s ∷ ss) none = absurd (omega (arith, none))

-- The state of the loop that deletes the gone slots at the front.
pub record IsTrimmed (old new : List Slot) : Type 0 where
  pub items : items_of new ≡ items_of old
  pub order : InSlotOrder old → InSlotOrder new
  pub few : length new ≤ length old

pub not_trimmed : (ss : List Slot) → IsTrimmed ss ss
not_trimmed ss = record {
  items = refl;
  order = λ order. order;
  few = omega arith;
}

-- The state of the loop that searches for a job: the remaining entries are entries of the list, and the entries of the
-- job are among them.
pub record IsSought (all left : List Entry) (id : ℕ) : Type 0 where
  pub only : (e : Entry) → Contains left e → Contains all e
  pub each : (e : Entry) → Contains all e → e.id ≡ id → Contains left e

pub all_left : (all left : List Entry) (id : ℕ) → left ≡ all → IsSought all left id
all_left all left id same = record {
  only = λ e there. subst (λ l. Contains l e) same there;
  each = λ e there is. subst (λ l. Contains l e) (sym same) there;
}
