-- The bytes that were sent are at their places.
use Rattle.std.proofs.Common.{◌≡◌, ℕ, ◌+◌, ◌≤◌, List, [], ◌∷◌, ◌++◌, Bool, true, false, Option, None, Some, length, map, refl, sym, ◌∙◌, ap, subst, arith, append_assoc, length-append}
use Rattle.std.proofs.lemmas.List.{append-nil}
use Rattle.std.specs.Prelude.{◌==◌, if◌then◌else◌}
use Rattle.std.specs.Int.{w32, to_be_bytes}
use Rattle.gate_journal.specs.Entries.{records}
use Rattle.gate_journal.proofs.Places.{records-append}
use Rattle.gate_journal.proofs.Steps.{length-records-push}
use Rattle.spool_types.specs.declared.event.Event.{Event}
use Rattle.spool_types.specs.declared.event.Event.TheVariants.{Send}
use Rattle.event_codec.specs.Spelling.{spelling, send_code}
use Rattle.extents.specs.declared.extent.Extent.{Extent}
use Rattle.spool_areas.specs.Header.{header_len}
use Rattle.spool_areas.specs.PayloadExtents.{bytes_of}
use Rattle.spool_areas.specs.Payloads.{HasPayloads, gate_after}
use Rattle.extents.specs.Extents.{size_of}
use Rattle.documents.specs.Documents.{joined, LieIn}
use Rattle.spool_types.specs.Sent.{sent_by, sent_to, sent_in, bytes_behind, placed_to}
use Rattle.documents.specs.Placed.{placed_in, SpellsSent}
use Rattle.documents.proofs.Joined.{part_of, size_of-append}

pub joined-append : (r : List ℕ) (xs ys : List Extent) → joined r (xs ++ ys) ≡ joined r xs ++ joined r ys
joined-append r [] ys = refl
joined-append r (x ∷ xs) ys = ap (λ (l : List ℕ). bytes_of r x ++ l) (joined-append r xs ys) ∙ sym (append_assoc (bytes_of r x) (joined r xs) (joined r ys))

pub LieIn-append : (low high : ℕ) (xs ys : List Extent) → LieIn low high xs → LieIn low high ys → LieIn low high (xs ++ ys)
LieIn-append low high [] ys one two = two
LieIn-append low high (x ∷ xs) ys one two = (one.0, LieIn-append low high xs ys one.1 two)

-- A kind, the job, and the number of bytes that follow.
abbrev pub front_of : ℕ → ℕ → List ℕ → List ℕ
front_of kind k bytes = kind ∷ (to_be_bytes w32 k ++ to_be_bytes w32 (length bytes))

inner : {A : Type 0} (x y : A) → Some x ≡ Some y → x ≡ y
inner x y is = cc is

-- A spelling ends with the bytes that it sends.
pub sends_behind : (kind : ℕ) (x y : ℕ × List ℕ) → Some x ≡ Some y → kind ∷ send_code x.0 x.1 ≡ front_of kind y.0 y.1 ++ y.1
sends_behind kind x y is = ap (λ (p : ℕ × List ℕ). front_of kind p.0 p.1 ++ p.1) (inner x y is)

-- An event that sends spells the bytes after nine others.
spells : (e : Event) (k : ℕ) (bytes : List ℕ) → sent_by e ≡ Some (k, bytes) → spelling e ≡ front_of 0x06 k bytes ++ bytes
spells (Send j sends) k bytes is = sends_behind 0x06 (j, sends) (k, bytes) is
spells e k bytes is = absurd (cc is)

pub spells_sent : SpellsSent spelling sent_by
spells_sent e k bytes is = (front_of 0x06 k bytes, refl, spells e k bytes is)

pub wider_lie : (low high from to : ℕ) (xs : List Extent) → from ≤ low → high ≤ to → LieIn low high xs → LieIn from to xs
wider_lie low high from to [] below above lie = tt
wider_lie low high from to (x ∷ xs) below above lie = ((omega (arith, below, lie.0.0), omega (arith, above, lie.0.1)), wider_lie low high from to xs below above lie.1)

module _ {E : Type 0} (spell : E → List ℕ) (sends : E → Option (ℕ × List ℕ)) (spelt : SpellsSent spell sends) where
  chosen : (r : List ℕ) (test : Bool) (gate : ℕ) (part : List ℕ) → bytes_of r (record { place = gate + 5 + 9; len = length part }) ≡ part
      → joined r (if test then record { place = gate + 5 + 9; len = length part } ∷ [] else []) ≡ (if test then part else [])
  chosen r true gate part there = append-nil (bytes_of r (record { place = gate + 5 + 9; len = length part })) ∙ there
  chosen r false gate part there = refl

  one_placed : (base : ℕ) (r : List ℕ) (before after : List (List ℕ)) (e : E) (j : ℕ) (o : Option (ℕ × List ℕ)) → sends e ≡ o → HasPayloads base (before ++ spell e ∷ after) r
      → joined r (placed_to (gate_after base before + 5) j o) ≡ sent_to j o
  one_placed base r before after e j None is has = refl
  one_placed base r before after e j (Some (k, bytes)) is has =
      let s = spelt e k bytes is in
      let there = part_of base before after s.0 bytes [] r (subst (λ (p : List ℕ). HasPayloads base (before ++ p ∷ after) r) (s.2 ∙ ap (λ (l : List ℕ). s.0 ++ l) (sym (append-nil bytes))) has) in
      chosen r (k == j) (gate_after base before) bytes (ap (λ (n : ℕ). bytes_of r (record { place = gate_after base before + 5 + n; len = length bytes })) (sym s.1) ∙ there)

  pub held : (base : ℕ) (r : List ℕ) (before after : List (List ℕ)) (es : List E) (j : ℕ) → HasPayloads base (before ++ (map spell es ++ after)) r → joined r (placed_in spell sends (gate_after base before) es j) ≡ sent_in sends es j
  held base r before after [] j has = refl
  held base r before after (e ∷ es) j has =
      let more = before ++ spell e ∷ [] in
      let gate : gate_after base more ≡ gate_after base before + 5 + length (spell e) = omega (arith, length-records-push before (spell e)) in
      let rest : HasPayloads base (more ++ (map spell es ++ after)) r = subst (λ (l : List (List ℕ)). HasPayloads base l r) (sym (append_assoc before (spell e ∷ []) (map spell es ++ after))) has in
      joined-append r (placed_to (gate_after base before + 5) j (sends e)) (placed_in spell sends (gate_after base before + 5 + length (spell e)) es j)
      ∙ ap (λ (l : List ℕ). l ++ joined r (placed_in spell sends (gate_after base before + 5 + length (spell e)) es j)) (one_placed base r before (map spell es ++ after) e j (sends e) refl has)
      ∙ ap (λ (l : List ℕ). sent_to j (sends e) ++ l) (ap (λ (n : ℕ). joined r (placed_in spell sends n es j)) (sym gate) ∙ held base r more after es j rest)

  one_lies : (gate : ℕ) (e : E) (j : ℕ) (o : Option (ℕ × List ℕ)) → sends e ≡ o → LieIn gate (gate + 5 + length (spell e)) (placed_to (gate + 5) j o)
  one_lies gate e j None is = tt
  one_lies gate e j (Some (k, bytes)) is = in_both (k == j)
    where
      long : length (spell e) ≡ 9 + length bytes
      long = let s = spelt e k bytes is in omega (arith, ap length s.2, s.1, length-append s.0 bytes)

      in_both : (test : Bool) → LieIn gate (gate + 5 + length (spell e)) (if test then record { place = gate + 5 + bytes_behind; len = length bytes } ∷ [] else [])
      in_both true = ((omega arith, omega (arith, long)), tt)
      in_both false = tt

  pub lie_between : (gate : ℕ) (es : List E) (j : ℕ) → LieIn gate (gate + length (records (map spell es))) (placed_in spell sends gate es j)
  lie_between gate [] j = tt
  lie_between gate (e ∷ es) j =
      let end = gate + 5 + length (spell e) in
      let all = gate + length (records (map spell (e ∷ es))) in
      let there : end + length (records (map spell es)) ≡ all = omega (arith, length-append (spell e) (records (map spell es))) in
      LieIn-append gate all (placed_to (gate + 5) j (sends e)) (placed_in spell sends end es j)
      (wider_lie gate end gate all (placed_to (gate + 5) j (sends e)) (omega arith) (omega (arith, there)) (one_lies gate e j (sends e) refl))
      (wider_lie end (end + length (records (map spell es))) gate all (placed_in spell sends end es j) (omega arith) (omega (arith, there)) (lie_between end es j))

  pub one_more : (gate : ℕ) (es : List E) (e : E) (j : ℕ) → placed_in spell sends gate (es ++ e ∷ []) j ≡ placed_in spell sends gate es j ++ placed_to (gate + length (records (map spell es)) + 5) j (sends e)
  one_more gate [] e j =
      let at : gate ≡ gate + 0 = omega arith in
      append-nil (placed_to (gate + 5) j (sends e)) ∙ ap (λ (n : ℕ). placed_to (n + 5) j (sends e)) at
  one_more gate (d ∷ es) e j =
      let next = gate + 5 + length (spell d) in
      let at : next + length (records (map spell es)) ≡ gate + length (records (map spell (d ∷ es))) = omega (arith, length-append (spell d) (records (map spell es))) in
      ap (λ (l : List Extent). placed_to (gate + 5) j (sends d) ++ l) (one_more next es e j ∙ ap (λ (n : ℕ). placed_in spell sends next es j ++ placed_to (n + 5) j (sends e)) at)
      ∙ sym (append_assoc (placed_to (gate + 5) j (sends d)) (placed_in spell sends next es j) (placed_to (gate + length (records (map spell (d ∷ es))) + 5) j (sends e)))

  pub held_all : (base : ℕ) (r : List ℕ) (after : List (List ℕ)) (es : List E) (j : ℕ) → HasPayloads base (map spell es ++ after) r → joined r (placed_in spell sends (base + header_len) es j) ≡ sent_in sends es j
  held_all base r after es j has =
      let at : base + header_len ≡ gate_after base [] = omega arith in
      ap (λ (n : ℕ). joined r (placed_in spell sends n es j)) at ∙ held base r [] after es j has

  pub held_last : (base : ℕ) (r : List ℕ) (before : List (List ℕ)) (es : List E) (j : ℕ) → HasPayloads base (before ++ map spell es) r → joined r (placed_in spell sends (gate_after base before) es j) ≡ sent_in sends es j
  held_last base r before es j has = held base r before [] es j (subst (λ (l : List (List ℕ)). HasPayloads base (before ++ l) r) (sym (append-nil (map spell es))) has)

  pub held_first : (base : ℕ) (r : List ℕ) (es : List E) (j : ℕ) → HasPayloads base (map spell es) r → joined r (placed_in spell sends (base + header_len) es j) ≡ sent_in sends es j
  held_first base r es j has = held_all base r [] es j (subst (λ (l : List (List ℕ)). HasPayloads base l r) (sym (append-nil (map spell es))) has)

  one_sized : (gate j : ℕ) (o : Option (ℕ × List ℕ)) → size_of (placed_to (gate + 5) j o) ≡ length (sent_to j o)
  one_sized gate j None = refl
  one_sized gate j (Some (k, bytes)) = by_test (k == j)
    where
      by_test : (test : Bool) → size_of (if test then record { place = gate + 5 + bytes_behind; len = length bytes } ∷ [] else []) ≡ length (if test then bytes else [])
      by_test true = omega arith
      by_test false = refl

  pub sized : (gate : ℕ) (es : List E) (j : ℕ) → size_of (placed_in spell sends gate es j) ≡ length (sent_in sends es j)
  sized gate [] j = refl
  sized gate (e ∷ es) j =
      let next = gate + 5 + length (spell e) in
      omega (arith, size_of-append (placed_to (gate + 5) j (sends e)) (placed_in spell sends next es j), one_sized gate j (sends e), sized next es j, length-append (sent_to j (sends e)) (sent_in sends es j))

-- The gate after some payloads and others.
pub gate_after-append : (base : ℕ) (some others : List (List ℕ)) → gate_after base (some ++ others) ≡ gate_after base some + length (records others)
gate_after-append base some others = omega (arith, ap length (records-append some others), length-append (records some) (records others))
