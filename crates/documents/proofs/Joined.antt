-- The bytes of extents.
use Rattle.std.proofs.Common.{◌≡◌, ◌⊎◌, inl, inr, ℕ, ◌+◌, ◌-◌, ◌<◌, ◌≤◌, List, [], ◌∷◌, ◌++◌, length, get_or, zero, suc, take, drop, refl, sym, ◌∙◌, ap, subst, arith, append_assoc, length-append, length-drop}
use Rattle.std.proofs.lemmas.List.{take-take, drop-drop, drop-take, take_at, drop_at, drop_more, drop-append-le, take-append-le, length-take, append-nil}
use Rattle.std.proofs.Math.Seq.{take-add}
use Rattle.std.proofs.lemmas.List.{take_all, length-take-le}
use Rattle.std.proofs.lemmas.Slice.{take-put_mid}
use borrow.Rule.Slice.PartMut.{put_mid, same_len_mid}
use Rattle.spool_disk.specs.Disk.{SameOutside}
use Rattle.gate_journal.specs.Entries.{records}
use Rattle.gate_journal.proofs.Places.{at_entry, records-append}
use Rattle.extents.specs.declared.extent.Extent.{Extent}
use Rattle.spool_areas.specs.Header.{header_len}
use Rattle.spool_areas.specs.PayloadExtents.{bytes_of}
use Rattle.spool_areas.specs.Payloads.{HasPayloads, gate_after}
use Rattle.extents.specs.Extents.{size_of}
use Rattle.documents.specs.Documents.{joined, LieIn}

-- The bytes of an extent, by its length.
pub bytes_are : (bytes : List ℕ) (x : Extent) → bytes_of bytes x ≡ take x.len (drop x.place bytes)
bytes_are bytes x =
    let len : x.place + x.len - x.place ≡ x.len = omega arith in
    ap (λ (n : ℕ). take n (drop x.place bytes)) len

pub kept_one : (low high at n : ℕ) (x : Extent) (old new : List ℕ) → low ≤ x.place → x.place + x.len ≤ high → (high ≤ at) ⊎ (at + n ≤ low) → SameOutside at n old new → bytes_of new x ≡ bytes_of old x
kept_one low high at n x old new from to (inl before) same =
    let e : take (x.place + x.len) new ≡ take (x.place + x.len) old =
    sym (take-take (x.place + x.len) at new (omega arith)) ∙ ap (take (x.place + x.len)) same.before ∙ take-take (x.place + x.len) at old (omega arith) in
    bytes_are new x ∙ sym (drop-take x.place x.len new) ∙ ap (drop x.place) e ∙ drop-take x.place x.len old ∙ sym (bytes_are old x)
kept_one low high at n x old new from to (inr behind) same =
    let far : x.place ≡ at + n + (x.place - (at + n)) = omega arith in
    let e : drop x.place new ≡ drop x.place old =
    ap (λ (k : ℕ). drop k new) far ∙ sym (drop-drop (x.place - (at + n)) (at + n) new) ∙ ap (drop (x.place - (at + n))) same.after ∙ drop-drop (x.place - (at + n)) (at + n) old ∙ ap (λ (k : ℕ). drop k old) (sym far) in
    bytes_are new x ∙ ap (take x.len) e ∙ sym (bytes_are old x)

pub kept : (low high at n : ℕ) (xs : List Extent) (old new : List ℕ) → LieIn low high xs → (high ≤ at) ⊎ (at + n ≤ low) → SameOutside at n old new → joined new xs ≡ joined old xs
kept low high at n [] old new lie apart same = refl
kept low high at n (x ∷ xs) old new lie apart same =
    ap (λ (l : List ℕ). l ++ joined new xs) (kept_one low high at n x old new lie.0.0 lie.0.1 apart same) ∙ ap (λ (l : List ℕ). bytes_of old x ++ l) (kept low high at n xs old new lie.1 apart same)

pub pushed : (xs : List Extent) (x : Extent) (bytes : List ℕ) → joined bytes (xs ++ x ∷ []) ≡ joined bytes xs ++ bytes_of bytes x
pushed [] x bytes = append-nil (bytes_of bytes x)
pushed (y ∷ xs) x bytes = ap (λ (l : List ℕ). bytes_of bytes y ++ l) (pushed xs x bytes) ∙ sym (append_assoc (bytes_of bytes y) (joined bytes xs) (bytes_of bytes x))

pub lies : (base : ℕ) (before after : List (List ℕ)) (front part rest : List ℕ) → gate_after base before + 5 + length front + length part ≤ gate_after base (before ++ (front ++ (part ++ rest)) ∷ after)
lies base before after front part rest =
    let payload = front ++ (part ++ rest) in
    omega (arith, ap length (records-append before (payload ∷ after)), length-append (records before) (records (payload ∷ after)), length-append payload (records after), length-append front (part ++ rest), length-append part rest)

pub part_of : (base : ℕ) (before after : List (List ℕ)) (front part rest bytes : List ℕ) → HasPayloads base (before ++ (front ++ (part ++ rest)) ∷ after) bytes
    → bytes_of bytes (record { place = gate_after base before + 5 + length front; len = length part }) ≡ part
part_of base before after front part rest bytes has =
    let payload = front ++ (part ++ rest) in
    let gate = gate_after base before in
    let place = gate + 5 + length front in
    let whole : take (length payload) (drop (gate + 5) bytes) ≡ payload =
    (at_entry (base + header_len) (gate + 6 + length payload) gate before after payload bytes has.entries (omega arith) (omega arith)).1 in
    let cut : length front + length part ≤ length payload = omega (arith, length-append front (part ++ rest), length-append part rest) in
    bytes_are bytes (record { place = place; len = length part })
    ∙ ap (take (length part)) (sym (drop-drop (length front) (gate + 5) bytes))
    ∙ sym (drop-take (length front) (length part) (drop (gate + 5) bytes))
    ∙ ap (drop (length front)) (sym (take-take (length front + length part) (length payload) (drop (gate + 5) bytes) cut) ∙ ap (take (length front + length part)) whole)
    ∙ drop-take (length front) (length part) payload
    ∙ ap (take (length part)) (drop_at front (part ++ rest) (length front) refl)
    ∙ take_at part rest (length part) refl

-- ---- reading

drop_past : (xs ys : List ℕ) (n : ℕ) → length xs ≤ n → drop n (xs ++ ys) ≡ drop (n - length xs) ys
drop_past [] ys n over = let same : n ≡ n - 0 = omega arith in ap (λ (k : ℕ). drop k ys) same
drop_past (x ∷ xs) ys zero over = absurd (omega arith)
drop_past (x ∷ xs) ys (suc n) over = let same : n - length xs ≡ suc n - length (x ∷ xs) = omega arith in drop_past xs ys n (omega arith) ∙ ap (λ (k : ℕ). drop k ys) same

pub bytes_len : (bytes : List ℕ) (x : Extent) → x.place + x.len ≤ length bytes → length (bytes_of bytes x) ≡ x.len
bytes_len bytes x inside = ap length (bytes_are bytes x) ∙ omega (arith, length-take x.len (drop x.place bytes), length-drop x.place bytes)

-- The next extent, after the first n.
pub next_lies : (low high : ℕ) (xs : List Extent) (k : ℕ) (d : Extent) → k < length xs → LieIn low high (drop k xs) → (low ≤ (get_or xs k d).place) × ((get_or xs k d).place + (get_or xs k d).len ≤ high) × LieIn low high (drop (k + 1) xs)
next_lies low high xs k d within lie =
    let parts = subst (LieIn low high) (drop_more xs k d within) lie in
    (parts.0.0, parts.0.1, parts.1)

pub next_size : (xs : List Extent) (k : ℕ) (d : Extent) → k < length xs → size_of (drop k xs) ≡ (get_or xs k d).len + size_of (drop (k + 1) xs)
next_size xs k d within = ap size_of (drop_more xs k d within)

module _ (r : List ℕ) (xs : List Extent) (k : ℕ) (d : Extent) (within : k < length xs) (inside : (get_or xs k d).place + (get_or xs k d).len ≤ length r) (from skip : ℕ) (rest : drop from (joined r xs) ≡ drop skip (joined r (drop k xs))) where
  abbrev x : Extent
  x = get_or xs k d

  abbrev others : List ℕ
  others = joined r (drop (k + 1) xs)

  both : drop from (joined r xs) ≡ drop skip (bytes_of r x ++ others)
  both = rest ∙ ap (λ (l : List Extent). drop skip (joined r l)) (drop_more xs k d within)

  long : length (bytes_of r x) ≡ x.len
  long = bytes_len r x inside

  -- The whole extent is skipped.
  pub skipped : x.len ≤ skip → drop from (joined r xs) ≡ drop (skip - x.len) others
  skipped past = both ∙ drop_past (bytes_of r x) others skip (omega (arith, long, past)) ∙ ap (λ (n : ℕ). drop (skip - n) others) long

  -- These n bytes of it are read.
  pub got_part : (n : ℕ) → skip + n ≤ x.len → take n (drop from (joined r xs)) ≡ take n (drop (x.place + skip) r)
  got_part n fits =
      let front : length (drop skip (bytes_of r x)) ≡ x.len - skip = omega (arith, length-drop skip (bytes_of r x), long) in
      let split : skip + (x.len - skip) ≡ x.len = omega (arith, fits) in
      ap (take n) (both ∙ drop-append-le skip (bytes_of r x) others (omega (arith, long, fits)))
      ∙ take-append-le n (drop skip (bytes_of r x)) others (omega (arith, front, fits))
      ∙ ap (λ (l : List ℕ). take n (drop skip l)) (bytes_are r x ∙ ap (λ (m : ℕ). take m (drop x.place r)) (sym split))
      ∙ ap (take n) (drop-take skip (x.len - skip) (drop x.place r))
      ∙ take-take n (x.len - skip) (drop skip (drop x.place r)) (omega (arith, fits))
      ∙ ap (take n) (drop-drop skip x.place r)

  -- The other extents follow it.
  pub passed : skip ≤ x.len → drop (from + (x.len - skip)) (joined r xs) ≡ others
  passed fits =
      let n = x.len - skip in
      sym (drop-drop n from (joined r xs)) ∙ ap (drop n) both ∙ drop-drop n skip (bytes_of r x ++ others)
      ∙ drop_past (bytes_of r x) others (skip + n) (omega (arith, long, fits)) ∙ (let none : skip + n - length (bytes_of r x) ≡ 0 = omega (arith, long, fits) in ap (λ (m : ℕ). drop m others) none)

  -- The bytes that were read are the next part of the document.
  pub more : (at done n : ℕ) (old got : List ℕ) → from ≡ at + done → old ≡ take done (drop at (joined r xs)) → skip + n ≤ x.len → got ≡ take n (drop (x.place + skip) r) → old ++ got ≡ take (done + n) (drop at (joined r xs))
  more at done n old got is had fits read =
      ap (λ (l : List ℕ). l ++ got) had
      ∙ ap (λ (l : List ℕ). take done (drop at (joined r xs)) ++ l) (read ∙ sym (got_part n fits) ∙ ap (λ (m : ℕ). take n (drop m (joined r xs))) is ∙ ap (take n) (sym (drop-drop done at (joined r xs))))
      ∙ sym (take-add done n (drop at (joined r xs)))

-- A part that was written does not change the length.
pub put_len : (a k : ℕ) (xs ys : List ℕ) → length ys ≡ k → a + k ≤ length xs → length (put_mid a k xs ys) ≡ length xs
put_len a k xs ys long fits = same_len_mid a k xs ys (omega (arith, long, length-take-le k (drop a xs) (omega (arith, length-drop a xs, fits))))

-- The part is after the bytes before it.
pub put_to : (a k : ℕ) (xs ys : List ℕ) → length ys ≡ k → a + k ≤ length xs → take (a + k) (put_mid a k xs ys) ≡ take a xs ++ ys
put_to a k xs ys long fits = take-put_mid a k xs ys (a + k) (omega (arith, long)) (omega (arith, fits))

pub put_all : (a k : ℕ) (xs ys : List ℕ) → length ys ≡ k → a + k ≡ length xs → put_mid a k xs ys ≡ take a xs ++ ys
put_all a k xs ys long fits =
    sym (take_all (a + k) (put_mid a k xs ys) (omega (arith, put_len a k xs ys long (omega (arith, fits)), fits))) ∙ put_to a k xs ys long (omega (arith, fits))

-- ---- sizes

pub size_of-append : (xs ys : List Extent) → size_of (xs ++ ys) ≡ size_of xs + size_of ys
size_of-append [] ys = omega arith
size_of-append (x ∷ xs) ys = omega (arith, size_of-append xs ys)

pub size_pushed : (xs : List Extent) (x : Extent) → size_of (xs ++ x ∷ []) ≡ size_of xs + x.len
size_pushed xs x = omega (arith, size_of-append xs (x ∷ []))

pub joined_len : (low high : ℕ) (xs : List Extent) (bytes : List ℕ) → LieIn low high xs → high ≤ length bytes → length (joined bytes xs) ≡ size_of xs
joined_len low high [] bytes lie fits = refl
joined_len low high (x ∷ xs) bytes lie fits =
    omega (arith, length-append (bytes_of bytes x) (joined bytes xs), bytes_len bytes x (omega (arith, lie.0.1, fits)), joined_len low high xs bytes lie.1 fits)
