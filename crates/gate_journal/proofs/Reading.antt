-- The contents at an offset continue the entries before it.
use Rattle.std.proofs.Common.{◌≡◌, ◌≢◌, ℕ, ◌+◌, ◌-◌, ◌<◌, ◌≤◌, ◌^◌, List, [], ◌∷◌, ◌++◌, length, get_or, take, drop, refl, sym, ◌∙◌, ap, arith, append_assoc, length-drop, take-append-drop}
use Rattle.std.proofs.lemmas.List.{drop_at, drop_more, drop-drop, length-take-le}
use Rattle.std.proofs.lemmas.Bool.{cases_eq}
use Rattle.std.proofs.lemmas.Bool.Decides.{nat_tests}
use Rattle.std.proofs.Common.{inl, inr, Result, Ok, Err, IfOk}
use Rattle.std.specs.Prelude.{if◌then◌else◌, ◌==◌, nat_lt, slice_range}
use Rattle.std.specs.Int.{w32, to_be_bytes}
use Rattle.gate_journal.specs.Entries.{record_of, records, HasEntries, HasFirst}
use Rattle.gate_journal.specs.FoundEntries.{length_at, entry_at, LiesBefore, GoesOn, IsSpelt}
use Rattle.gate_journal.specs.declared.entry.Found.{Found}
use Rattle.gate_journal.specs.declared.entry.Found.TheVariants.{Entry, End, Damaged}
use Rattle.gate_journal.proofs.Steps.{records-push, length-records-push, short-push}

abbrev choose : ℕ → ℕ → ℕ → ℕ → Found
choose end place gate n = if gate == 165 then (if nat_lt (place + 5 + n) end then Entry (place + 5) n else Damaged) else End

chosen_closed : (end place gate n : ℕ) → gate ≢ 165 → choose end place gate n ≡ End
chosen_closed end place gate n shut = grind (arith, nat_tests)

chosen_open : (end place gate n : ℕ) → gate ≡ 165 → choose end place gate n ≢ End
chosen_open end place gate n is = grind (arith, nat_tests)

-- An entry is after an open gate.
open_before : (end place gate n at len : ℕ) → Entry at len ≡ choose end place gate n → gate ≡ 165
open_before end place gate n at len found = elim (cases_eq gate 165) [
  | inl is ↦ is
  | inr shut ↦ let e = chosen_closed end place gate n shut in absurd (cc)
]

-- A record and the bytes after it.
one_record : (place n : ℕ) (bytes : List ℕ) → place + 5 + n ≤ length bytes → get_or bytes place 0 ≡ 165 → to_be_bytes w32 n ≡ take 4 (drop (place + 1) bytes)
    → drop place bytes ≡ record_of (take n (drop (place + 5) bytes)) ++ drop (place + 5 + n) bytes
one_record place n bytes fits gate spelt =
    let payload = take n (drop (place + 5) bytes) in
    let inside : place < length bytes = omega arith in
    let long : length payload ≡ n = length-take-le n (drop (place + 5) bytes) (omega (arith, length-drop (place + 5) bytes)) in
    let five : place + 1 + 4 ≡ place + 5 = omega arith in
    let behind : drop (place + 1) bytes ≡ to_be_bytes w32 n ++ drop (place + 5) bytes =
    sym (take-append-drop 4 (drop (place + 1) bytes))
    ∙ ap (λ (l : List ℕ). l ++ drop 4 (drop (place + 1) bytes)) (sym spelt)
    ∙ ap (λ (l : List ℕ). to_be_bytes w32 n ++ l) (drop-drop 4 (place + 1) bytes ∙ ap (λ (k : ℕ). drop k bytes) five) in
    let parts : drop (place + 5) bytes ≡ payload ++ drop (place + 5 + n) bytes =
    sym (take-append-drop n (drop (place + 5) bytes)) ∙ ap (λ (l : List ℕ). payload ++ l) (drop-drop n (place + 5) bytes) in
    drop_more bytes place 0 inside
    ∙ ap (λ (g : ℕ). g ∷ drop (place + 1) bytes) gate
    ∙ ap (λ (l : List ℕ). 165 ∷ l) (behind
    ∙ ap (λ (l : List ℕ). to_be_bytes w32 n ++ l) parts
    ∙ ap (λ (k : ℕ). to_be_bytes w32 k ++ (payload ++ drop (place + 5 + n) bytes)) (sym long)
    ∙ sym (append_assoc (to_be_bytes w32 (length payload)) payload (drop (place + 5 + n) bytes)))

module _ (base place : ℕ) (payloads : List (List ℕ)) (bytes : List ℕ) (first : HasFirst base place payloads bytes) where
  -- The bytes after the first entries begin at `place`.
  behind_first : drop base bytes ≡ records payloads ++ drop place bytes
  behind_first =
      first.stands ∙ ap (λ (l : List ℕ). records payloads ++ l)
      (sym (ap (λ (n : ℕ). drop n bytes) first.place_at ∙ sym (drop-drop (length (records payloads)) base bytes) ∙ ap (drop (length (records payloads))) first.stands
      ∙ drop_at (records payloads) first.rest (length (records payloads)) refl))

  one_more : (at n : ℕ) → at ≡ place + 5 → at + n ≤ length bytes → n < 2 ^ 32 → get_or bytes place 0 ≡ 165 → to_be_bytes w32 n ≡ take 4 (drop (place + 1) bytes)
      → HasFirst base (at + n) (payloads ++ slice_range bytes at (at + n) ∷ []) bytes
  one_more at n is fits short gate spelt =
      let payload = slice_range bytes at (at + n) in
      let size : at + n - at ≡ n = omega arith in
      let same : take n (drop (place + 5) bytes) ≡ payload = ap (λ (k : ℕ). take n (drop k bytes)) (sym is) ∙ ap (λ (k : ℕ). take k (drop at bytes)) (sym size) in
      let long : length payload ≡ n = ap length (sym same) ∙ length-take-le n (drop (place + 5) bytes) (omega (arith, length-drop (place + 5) bytes)) in
      let follows : place + 5 + n ≡ at + n = omega arith in
      record {
        short = short-push payloads payload first.short (omega arith);
        place_at = omega (arith, first.place_at, length-records-push payloads payload);
        rest = drop (at + n) bytes;
        stands =
            behind_first
            ∙ ap (λ (l : List ℕ). records payloads ++ l)
            (one_record place n bytes (omega arith) gate spelt
            ∙ ap (λ (p : List ℕ). record_of p ++ drop (place + 5 + n) bytes) same
            ∙ ap (λ (k : ℕ). record_of payload ++ drop k bytes) follows)
            ∙ sym (records-push payloads payload (drop (at + n) bytes));
      }

  no_other : place < length bytes → get_or bytes place 0 ≢ 165 → HasEntries base payloads bytes
  no_other inside shut = record {
    short = first.short;
    gate = get_or bytes place 0;
    rest = drop (place + 1) bytes;
    closed = shut;
    stands = behind_first ∙ ap (λ (l : List ℕ). records payloads ++ l) (drop_more bytes place 0 inside);
  }

  pub goes_on : (end : ℕ) (found : Found) → place < end → end ≤ length bytes → found ≡ entry_at bytes end place → LiesBefore end place found → IsSpelt bytes place found → GoesOn base payloads bytes found
  goes_on end (Entry at len) inside within exact lies spelt =
      let gate = open_before end place (get_or bytes place 0) (length_at bytes place) at len exact in
      one_more at len lies.0 (omega arith) spelt.0 gate spelt.1
  goes_on end End inside within exact lies spelt =
      no_other (omega arith) (λ is. chosen_open end place (get_or bytes place 0) (length_at bytes place) is (sym exact))
  goes_on end Damaged inside within exact lies spelt = tt

-- Three properties of a result, and a fourth that follows from them.
pub three_ok : {T X : Type 0} (r : Result T X) (P Q R S : T → Type 0) → ((x : T) → P x → Q x → R x → S x) → IfOk r P → IfOk r Q → IfOk r R → IfOk r S
three_ok (Ok x) P Q R S all p q s = all x p q s
three_ok (Err e) P Q R S all p q s = tt
