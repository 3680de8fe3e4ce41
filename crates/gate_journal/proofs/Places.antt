-- The contents at an offset of a journal with known entries.
use Rattle.std.proofs.Common.{◌≡◌, ◌≢◌, ℕ, ◌+◌, ◌<◌, ◌^◌, List, [], ◌∷◌, ◌++◌, length, get_or, take, drop, refl, sym, subst, ◌∙◌, ap, arith, append_assoc, Option, Some}
use Rattle.std.proofs.lemmas.List.{take_at, drop_at, drop-drop, get_or-drop}
use Rattle.std.proofs.lemmas.Bool.Decides.{nat_tests}
use Rattle.std.proofs.lemmas.Nat.{from_be_bytes-to_be_bytes_4}
use Rattle.std.specs.Prelude.{if◌then◌else◌, ◌==◌, nat_lt}
use Rattle.std.specs.Int.{w32, to_be_bytes, from_be_bytes}
use Rattle.spool_disk.specs.Disk.{Reads}
use Rattle.gate_journal.specs.Entries.{AreShort, record_of, records, HasEntries}
use Rattle.gate_journal.specs.FoundEntries.{length_at, entry_at}
use Rattle.gate_journal.specs.declared.entry.Found.{Found}
use Rattle.gate_journal.specs.declared.entry.Found.TheVariants.{Entry, End, Damaged}

pub records-append : (before after : List (List ℕ)) → records (before ++ after) ≡ records before ++ records after
records-append [] after = refl
records-append (p ∷ before) after = ap (λ (l : List ℕ). record_of p ++ l) (records-append before after) ∙ sym (append_assoc (record_of p) (records before) (records after))

shorts_after : (before after : List (List ℕ)) → AreShort (before ++ after) → AreShort after
shorts_after [] after shorts = shorts
shorts_after (p ∷ before) after shorts = shorts_after before after shorts.1

-- The bytes after the first records.
there : (base place : ℕ) (bytes front rest : List ℕ) → drop base bytes ≡ front ++ rest → place ≡ base + length front → drop place bytes ≡ rest
there base place bytes front rest stands at =
    ap (λ (n : ℕ). drop n bytes) at ∙ sym (drop-drop (length front) base bytes) ∙ ap (drop (length front)) stands ∙ drop_at front rest (length front) refl

gate_is : (place : ℕ) (bytes : List ℕ) (gate : ℕ) (rest : List ℕ) → drop place bytes ≡ gate ∷ rest → get_or bytes place 0 ≡ gate
gate_is place bytes gate rest is =
    let at : place ≡ place + 0 = omega arith in
    ap (λ (n : ℕ). get_or bytes n 0) at ∙ sym (get_or-drop place bytes 0 0) ∙ ap (λ (l : List ℕ). get_or l 0 0) is

pub at_end : (base end place : ℕ) (payloads : List (List ℕ)) (bytes : List ℕ) → HasEntries base payloads bytes → place ≡ base + length (records payloads) → entry_at bytes end place ≡ End
at_end base end place payloads bytes has at =
    let gate = gate_is place bytes has.gate has.rest (there base place bytes (records payloads) (has.gate ∷ has.rest) has.stands at) in
    let shut : get_or bytes place 0 ≢ 165 = λ is. has.closed (sym gate ∙ is) in
    grind (arith, nat_tests)

abbrev choose : ℕ → ℕ → ℕ → ℕ → Found
choose end place gate n = if gate == 165 then (if nat_lt (place + 5 + n) end then Entry (place + 5) n else Damaged) else End

chosen : (end place gate n : ℕ) → gate ≡ 165 → place + 5 + n < end → choose end place gate n ≡ Entry (place + 5) n
chosen end place gate n is fits = grind (arith, nat_tests)

pub at_entry : (base end place : ℕ) (before after : List (List ℕ)) (payload bytes : List ℕ) → HasEntries base (before ++ payload ∷ after) bytes → place ≡ base + length (records before) → place + 5 + length payload < end
    → (entry_at bytes end place ≡ Entry (place + 5) (length payload)) × (take (length payload) (drop (place + 5) bytes) ≡ payload)
at_entry base end place before after payload bytes has at fits =
    let rest = records after ++ has.gate ∷ has.rest in
    let size = to_be_bytes w32 (length payload) in
    let stands : drop place bytes ≡ 165 ∷ (size ++ (payload ++ rest)) =
    there base place bytes (records before) (165 ∷ (size ++ (payload ++ rest)))
    (has.stands
    ∙ ap (λ (l : List ℕ). l ++ has.gate ∷ has.rest) (records-append before (payload ∷ after))
    ∙ append_assoc (records before) (record_of payload ++ records after) (has.gate ∷ has.rest)
    ∙ ap (λ (l : List ℕ). records before ++ l) (append_assoc (record_of payload) (records after) (has.gate ∷ has.rest) ∙ append_assoc (165 ∷ size) payload rest)) at in
    let gate = gate_is place bytes 165 (size ++ (payload ++ rest)) stands in
    let behind : drop (place + 1) bytes ≡ size ++ (payload ++ rest) = sym (drop-drop 1 place bytes) ∙ ap (drop 1) stands in
    let short : length payload < 2 ^ 32 = (shorts_after before (payload ∷ after) has.short).0 in
    let long : length_at bytes place ≡ length payload = ap (λ (l : List ℕ). from_be_bytes w32 (take 4 l)) behind ∙ from_be_bytes-to_be_bytes_4 (length payload) short in
    let e : place + 5 ≡ place + 1 + 4 = omega arith in
    let found : entry_at bytes end place ≡ Entry (place + 5) (length payload) = ap (choose end place (get_or bytes place 0)) long ∙ chosen end place (get_or bytes place 0) (length payload) gate fits in
    (found, ap (λ (n : ℕ). take (length payload) (drop n bytes)) e ∙ ap (take (length payload)) (sym (drop-drop 4 (place + 1) bytes) ∙ ap (drop 4) behind) ∙ take_at payload rest (length payload) refl)

pub same_size : (p q r s : List ℕ) → length p ≡ length q → p ++ r ≡ q ++ s → (p ≡ q) × (r ≡ s)
same_size [] [] r s is e = (refl, e)
same_size [] (y ∷ q) r s is e = absurd (omega arith)
same_size (x ∷ p) [] r s is e = absurd (omega arith)
same_size (x ∷ p) (y ∷ q) r s is e =
    let heads : x ≡ y = cc in
    let tails : p ++ r ≡ q ++ s = cc in
    let both = same_size p q r s (omega arith) tails in
    (cc (heads, both.0), both.1)

pub regroup : (p : List ℕ) (ps : List (List ℕ)) (tail : List ℕ) → records (p ∷ ps) ++ tail ≡ 165 ∷ (to_be_bytes w32 (length p) ++ (p ++ (records ps ++ tail)))
regroup p ps tail = append_assoc (record_of p) (records ps) tail ∙ append_assoc (165 ∷ to_be_bytes w32 (length p)) p (records ps ++ tail)

-- Bytes have at most one list of entries.
pub one_list : (ps qs : List (List ℕ)) (g h : ℕ) (r s : List ℕ) → g ≢ 165 → h ≢ 165 → AreShort ps → AreShort qs → records ps ++ g ∷ r ≡ records qs ++ h ∷ s → ps ≡ qs
one_list [] [] g h r s a b short_ps short_qs e = refl
one_list [] (q ∷ qs) g h r s a b short_ps short_qs e = let is : g ≡ 165 = cc in absurd (a is)
one_list (p ∷ ps) [] g h r s a b short_ps short_qs e = let is : h ≡ 165 = cc in absurd (b is)
one_list (p ∷ ps) (q ∷ qs) g h r s a b short_ps short_qs e =
    let m = length p in
    let n = length q in
    let e1 : (to_be_bytes w32 m ++ (p ++ (records ps ++ g ∷ r))) ≡ (to_be_bytes w32 n ++ (q ++ (records qs ++ h ∷ s))) = ap (drop 1) (sym (regroup p ps (g ∷ r)) ∙ e ∙ regroup q qs (h ∷ s)) in
    let parts = same_size (to_be_bytes w32 m) (to_be_bytes w32 n) (p ++ (records ps ++ g ∷ r)) (q ++ (records qs ++ h ∷ s)) refl e1 in
    let sizes : m ≡ n = sym (from_be_bytes-to_be_bytes_4 m short_ps.0) ∙ ap (from_be_bytes w32) parts.0 ∙ from_be_bytes-to_be_bytes_4 n short_qs.0 in
    let both = same_size p q (records ps ++ g ∷ r) (records qs ++ h ∷ s) sizes parts.1 in
    let others : ps ≡ qs = one_list ps qs g h r s a b short_ps.1 short_qs.1 both.1 in
    cc (both.0, others)

-- The bytes that were read from a disk that reports its bytes.
pub read_told : (told : Option (List ℕ)) (bytes got : List ℕ) (at n : ℕ) → told ≡ Some bytes → length got ≡ n → Reads told at got → got ≡ take n (drop at bytes)
read_told told bytes got at n tells long reads =
    let there : got ≡ take (length got) (drop at bytes) = subst (λ (o : Option (List ℕ)). Reads o at got) tells reads in
    there ∙ ap (λ (k : ℕ). take k (drop at bytes)) long
