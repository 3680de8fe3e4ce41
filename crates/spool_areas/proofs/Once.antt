-- Bytes have one reading.
use Rattle.std.proofs.Common.{◌≡◌, ◌⊎◌, inl, inr, ⊎_elim, ℕ, ◌+◌, ◌<◌, ◌^◌, List, [], ◌∷◌, ◌++◌, Ok, length, get_or, take, drop, refl, sym, ◌∙◌, ap, subst, arith, append_assoc, length-append}
use Rattle.std.proofs.lemmas.List.{drop_at, drop-drop, get_or-drop, append-nil}
use Rattle.std.proofs.lemmas.Bool.Decides.{nat_tests}
use Rattle.std.proofs.lemmas.Nat.{from_be_bytes-to_be_bytes_4}
use Rattle.std.specs.Prelude.{if◌then◌else◌, ◌==◌, nat_lt}
use Rattle.std.specs.Int.{w32, to_be_bytes, from_be_bytes}
use Rattle.gate_journal.specs.Entries.{AreShort, records}
use Rattle.gate_journal.specs.FoundEntries.{length_at, entry_at}
use Rattle.gate_journal.specs.declared.entry.Found.{Found}
use Rattle.gate_journal.specs.declared.entry.Found.TheVariants.{Entry, End, Damaged}
use Rattle.gate_journal.proofs.Places.{records-append, at_end, same_size, regroup}
use Rattle.spool_areas.specs.Header.{half, header_len, current_area}
use Rattle.spool_areas.specs.Payloads.{HasPayloads, HasFirstPayloads, IsTornAfter, gate_after}

-- If two readings continue with a record, it is the same record.
same_record : (p q : List ℕ) (ps qs : List (List ℕ)) (r s : List ℕ) → length p < 2 ^ 32 → length q < 2 ^ 32 → records (p ∷ ps) ++ r ≡ records (q ∷ qs) ++ s → (p ≡ q) × (records ps ++ r ≡ records qs ++ s)
same_record p q ps qs r s short_p short_q e =
    let m = length p in
    let n = length q in
    let e1 : (to_be_bytes w32 m ++ (p ++ (records ps ++ r))) ≡ (to_be_bytes w32 n ++ (q ++ (records qs ++ s))) = ap (drop 1) (sym (regroup p ps r) ∙ e ∙ regroup q qs s) in
    let parts = same_size (to_be_bytes w32 m) (to_be_bytes w32 n) (p ++ (records ps ++ r)) (q ++ (records qs ++ s)) refl e1 in
    let sizes : m ≡ n = sym (from_be_bytes-to_be_bytes_4 m short_p) ∙ ap (from_be_bytes w32) parts.0 ∙ from_be_bytes-to_be_bytes_4 n short_q in
    same_size p q (records ps ++ r) (records qs ++ s) sizes parts.1

abbrev Begins : List (List ℕ) → List (List ℕ) → Type 0
Begins first all = (rest : List (List ℕ)) × (all ≡ first ++ rest)

one_more : (p q : List ℕ) (ps qs : List (List ℕ)) → p ≡ q → Begins ps qs → Begins (p ∷ ps) (q ∷ qs)
one_more p q ps qs same begins = (begins.0, cc (same, begins.1))

-- There are no further records up to a closed gate.
pub begins_all : (ps qs : List (List ℕ)) (g : ℕ) (r s : List ℕ) → (g ≡ 165 → ⊥) → AreShort ps → AreShort qs → records ps ++ r ≡ records qs ++ g ∷ s → Begins ps qs
begins_all [] qs g r s closed shorts_p shorts_q e = (qs, refl)
begins_all (p ∷ ps) [] g r s closed shorts_p shorts_q e = let is : g ≡ 165 = cc in absurd (closed is)
begins_all (p ∷ ps) (q ∷ qs) g r s closed shorts_p shorts_q e =
    let both = same_record p q ps qs r (g ∷ s) shorts_p.0 shorts_q.0 e in
    one_more p q ps qs both.0 (begins_all ps qs g r s closed shorts_p.1 shorts_q.1 both.1)

pub one_begins : (ps qs : List (List ℕ)) (r s : List ℕ) → AreShort ps → AreShort qs → records ps ++ r ≡ records qs ++ s → Begins qs ps ⊎ Begins ps qs
one_begins [] qs r s shorts_p shorts_q e = inr (qs, refl)
one_begins (p ∷ ps) [] r s shorts_p shorts_q e = inl (p ∷ ps, refl)
one_begins (p ∷ ps) (q ∷ qs) r s shorts_p shorts_q e =
    let both = same_record p q ps qs r s shorts_p.0 shorts_q.0 e in
    ⊎_elim
    (λ begins. inl (one_more q p qs ps (sym both.0) begins))
    (λ begins. inr (one_more p q ps qs both.0 begins))
    (one_begins ps qs r s shorts_p.1 shorts_q.1 both.1)

last_short : (before after : List (List ℕ)) → AreShort (before ++ after) → AreShort after
last_short [] after shorts = shorts
last_short (p ∷ before) after shorts = last_short before after shorts.1

abbrev found_by : ℕ → ℕ → ℕ → ℕ → Found
found_by end place gate n = if gate == 165 then (if nat_lt (place + 5 + n) end then Entry (place + 5) n else Damaged) else End

whole_record : (end place gate n : ℕ) → gate ≡ 165 → place + 5 + n < end → found_by end place gate n ≡ Entry (place + 5) n
whole_record end place gate n is fits = grind (arith, nat_tests)

-- A record that ends in the area is found as an entry.
whole_entry : (base end : ℕ) (before after : List (List ℕ)) (payload bytes tail : List ℕ) → AreShort (before ++ payload ∷ after) → drop base bytes ≡ records (before ++ payload ∷ after) ++ tail
    → base + length (records before) + 5 + length payload < end → entry_at bytes end (base + length (records before)) ≡ Entry (base + length (records before) + 5) (length payload)
whole_entry base end before after payload bytes tail shorts stands fits =
    let n = length (records before) in
    let place = base + n in
    let rest = payload ++ (records after ++ tail) in
    let size = to_be_bytes w32 (length payload) in
    let there : drop place bytes ≡ 165 ∷ (size ++ rest) =
    sym (drop-drop n base bytes) ∙ ap (drop n) (stands ∙ ap (λ (l : List ℕ). l ++ tail) (records-append before (payload ∷ after)) ∙ append_assoc (records before) (records (payload ∷ after)) tail ∙ ap (λ (l : List ℕ). records before ++ l) (regroup payload after tail))
    ∙ drop_at (records before) (165 ∷ (size ++ rest)) n refl in
    let at : place ≡ place + 0 = omega arith in
    let gate : get_or bytes place 0 ≡ 165 = ap (λ (k : ℕ). get_or bytes k 0) at ∙ sym (get_or-drop place bytes 0 0) ∙ ap (λ (l : List ℕ). get_or l 0 0) there in
    let behind : drop (place + 1) bytes ≡ size ++ rest = sym (drop-drop 1 place bytes) ∙ ap (drop 1) there in
    let long : length_at bytes place ≡ length payload = ap (λ (l : List ℕ). from_be_bytes w32 (take 4 l)) behind ∙ from_be_bytes-to_be_bytes_4 (length payload) (last_short before (payload ∷ after) shorts).0 in
    ap (found_by end place (get_or bytes place 0)) long ∙ whole_record end place (get_or bytes place 0) (length payload) gate fits

length-records-append : (before : List (List ℕ)) (payload : List ℕ) (after : List (List ℕ)) → length (records (before ++ payload ∷ after)) ≡ length (records before) + (5 + length payload + length (records after))
length-records-append before payload after =
    omega (arith, ap length (records-append before (payload ∷ after)), length-append (records before) (records (payload ∷ after)), length-append payload (records after))

module _ (bytes : List ℕ) where
  pub same_base : (base place : ℕ) → current_area bytes ≡ Ok base → current_area bytes ≡ Ok place → place ≡ base
  same_base base place a b = cc (a, b)

  -- A whole record is not torn.
  not_torn : (base : ℕ) (first : List (List ℕ)) (payload : List ℕ) (after : List (List ℕ)) (tail : List ℕ) → AreShort (first ++ payload ∷ after) → drop (base + header_len) bytes ≡ records (first ++ payload ∷ after) ++ tail
      → gate_after base (first ++ payload ∷ after) < base + half (length bytes) → entry_at bytes (base + half (length bytes)) (gate_after base first) ≡ Damaged → ⊥
  not_torn base first payload after tail shorts stands within torn =
      let found = whole_entry (base + header_len) (base + half (length bytes)) first after payload bytes tail shorts stands (omega (arith, within, length-records-append first payload after)) in
      absurd (cc (torn, found))

  pub first_of : (base : ℕ) (first all : List (List ℕ)) → HasFirstPayloads base first bytes → HasPayloads base all bytes → Begins first all
  first_of base first all some has =
      begins_all first all has.entries.gate some.first.rest has.entries.rest has.entries.closed some.first.short has.entries.short (sym some.first.stands ∙ has.entries.stands)

  pub either_first : (base : ℕ) (some others : List (List ℕ)) → HasFirstPayloads base some bytes → HasFirstPayloads base others bytes → Begins others some ⊎ Begins some others
  either_first base some others a b = one_begins some others a.first.rest b.first.rest a.first.short b.first.short (sym a.first.stands ∙ b.first.stands)

  -- No record follows a torn one.
  torn_last : (base : ℕ) (some others : List (List ℕ)) → IsTornAfter base others bytes → HasFirstPayloads base some bytes → Begins others some → some ≡ others
  torn_last base some others torn has ([], is) = is ∙ append-nil others
  torn_last base some others torn has (payload ∷ after, is) =
      let at : HasFirstPayloads base (others ++ payload ∷ after) bytes = subst (λ (l : List (List ℕ)). HasFirstPayloads base l bytes) is has in
      absurd (not_torn base others payload after at.first.rest at.first.short at.first.stands at.within torn.torn)

  pub one_torn : (base : ℕ) (some others : List (List ℕ)) → IsTornAfter base some bytes → IsTornAfter base others bytes → some ≡ others
  one_torn base some others a b =
      ⊎_elim (torn_last base some others b a.first) (λ begins. sym (torn_last base others some a b.first begins)) (either_first base some others a.first b.first)

  pub first_of_torn : (base : ℕ) (first all : List (List ℕ)) → HasFirstPayloads base first bytes → IsTornAfter base all bytes → Begins first all
  first_of_torn base first all has torn =
      ⊎_elim
      (λ begins. ([], sym (append-nil first ∙ torn_last base first all torn has begins)))
      (λ begins. begins)
      (either_first base first all has torn.first)

  -- Payloads up to a closed gate are first payloads too.
  are_first : (base : ℕ) (payloads : List (List ℕ)) → HasPayloads base payloads bytes → HasFirstPayloads base payloads bytes
  are_first base payloads has = record {
    current = has.current;
    first = record { short = has.entries.short; place_at = omega arith; rest = has.entries.gate ∷ has.entries.rest; stands = has.entries.stands };
    within = has.within;
  }

  pub whole_or_torn : (base : ℕ) (all first : List (List ℕ)) → HasPayloads base all bytes → IsTornAfter base first bytes → ⊥
  whole_or_torn base all first has torn =
      let same : all ≡ first = torn_last base all first torn (are_first base all has) (first_of base first all torn.first has) in
      let shut = at_end (base + header_len) (base + half (length bytes)) (gate_after base all) all bytes has.entries (omega arith) in
      let is_torn = subst (λ (l : List (List ℕ)). entry_at bytes (base + half (length bytes)) (gate_after base l) ≡ Damaged) (sym same) torn.torn in
      absurd (cc (shut, is_torn))
