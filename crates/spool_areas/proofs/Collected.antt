-- One more record.
use Rattle.std.proofs.Common.{◌≡◌, ℕ, ◌+◌, ◌<◌, ◌≤◌, List, [], ◌∷◌, ◌++◌, refl, sym, ◌∙◌, subst, drop, arith, Result, Ok, Err, Bool, false, Option, Some, None, length, ap}
use Rattle.std.specs.Prelude.{is_ok, is_err, if◌then◌else◌}
use Rattle.std.proofs.lemmas.List.{map-append}
use Rattle.gate_journal.specs.Entries.{HasFirst}
use Rattle.gate_journal.specs.FoundEntries.{GoesOn, LiesBefore, entry_at}
use Rattle.gate_journal.specs.declared.entry.Found.{Found}
use Rattle.gate_journal.specs.declared.entry.Found.TheVariants.{Entry}
use Rattle.extents.specs.declared.extent.Extent.{Extent}
use Rattle.spool_areas.specs.Header.{half, header_len, current_area}
use Rattle.spool_areas.specs.Payloads.{gate_after}
use Rattle.spool_areas.specs.PayloadExtents.{bytes_of, payloads_at, Follow, HasRecords, EndsSo}

pub none_first : (first : ℕ) (bytes : List ℕ) → HasFirst first first [] bytes
none_first first bytes = record { short = tt; place_at = omega arith; rest = drop first bytes; stands = refl }

pub follow_push : (gate : ℕ) (xs : List Extent) (end : ℕ) (x : Extent) → Follow gate xs end → x.place ≡ end + 5 → Follow gate (xs ++ x ∷ []) (x.place + x.len)
follow_push gate [] end x follow at = (omega (arith, follow, at), refl)
follow_push gate (y ∷ ys) end x follow at = (follow.0, follow_push (y.place + y.len) ys end x follow.1 at)

-- The entry that was found after the payloads of these extents is the payload of one more extent.
pub first_push : (first gate : ℕ) (xs : List Extent) (x : Extent) (found : Found) (bytes : List ℕ) → found ≡ Entry x.place x.len → GoesOn first (payloads_at bytes xs) bytes found → HasFirst first (x.place + x.len) (payloads_at bytes (xs ++ x ∷ [])) bytes
first_push first gate xs x found bytes is goes_on =
    subst (λ (l : List (List ℕ)). HasFirst first (x.place + x.len) l bytes) (sym (map-append (bytes_of bytes) xs (x ∷ [])))
    (subst (λ (f : Found). GoesOn first (payloads_at bytes xs) bytes f) is goes_on)

pub found_lies : (end gate place len : ℕ) (found : Found) → found ≡ Entry place len → LiesBefore end gate found → (place ≡ gate + 5) × (place + len < end)
found_lies end gate place len found is lies = subst (λ (f : Found). LiesBefore end gate f) is lies

pub follow_behind : (gate : ℕ) (xs : List Extent) (end : ℕ) → Follow gate xs end → gate ≤ end
follow_behind gate [] end follow = omega (arith, follow)
follow_behind gate (x ∷ xs) end follow = omega (arith, follow.0, follow_behind (x.place + x.len) xs end follow.1)

-- The records of the current area, from the gate after its header up to its end.
pub ends_so : (base end gate : ℕ) (payloads : List (List ℕ)) (bytes : List ℕ) (damage : Option ℕ) → current_area bytes ≡ Ok base → end ≡ base + half (length bytes) → gate < end → HasRecords (base + header_len) end gate payloads bytes damage → EndsSo base payloads bytes damage × (gate ≡ gate_after base payloads)
ends_so base end gate payloads bytes None current is within has = (
  record { current = current; entries = has.1; within = omega (arith, has.0.place_at) },
  has.0.place_at,
)
ends_so base end gate payloads bytes (Some told) current is within has = (
  record {
    first = record {
      current = current;
      first = subst (λ (g : ℕ). HasFirst (base + header_len) g payloads bytes) has.0.place_at has.0;
      within = omega (arith, has.0.place_at);
    };
    torn = ap (λ (g : ℕ). entry_at bytes (base + half (length bytes)) g) (sym has.0.place_at) ∙ ap (λ (e : ℕ). entry_at bytes e gate) (sym is) ∙ has.1;
  },
  has.0.place_at,
)

-- The result of a call that did not fail.
pub made : {T E X : Type 0} (r : Result T E) (x y z : X) (failed : Bool) → failed ≡ is_err r → failed ≡ false → x ≡ (if is_ok r then y else z) → x ≡ y
made (Ok t) x y z failed is not_failed made_so = made_so
made (Err e) x y z failed is not_failed made_so = absurd (cc (is, not_failed))
