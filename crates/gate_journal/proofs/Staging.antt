-- Records that are written after a closed gate.
use Rattle.std.proofs.Common.{◌≡◌, refl, sym, subst, ◌∙◌, ap, inl, ℕ, ◌+◌, ◌-◌, ◌<◌, ◌≤◌, ◌^◌, List, [], ◌∷◌, ◌++◌, length, take, drop, arith, append_assoc, length-append, length-drop, take-append-drop, Option, Some, None}
use Rattle.std.proofs.lemmas.List.{take_at, take-append-le, take-take, drop-append-le, drop-take, drop-drop, length-take-le, append-nil, length-take}
use Rattle.std.proofs.lemmas.Option.{same_Some}
use Rattle.std.proofs.Math.Seq.{drop-append-add}
use Rattle.std.specs.Option.{option_map}
use Rattle.std.specs.Prelude.{IsSome}
use Rattle.spool_disk.specs.Disk.{DiskView, IsLawful, LeavesOnly, ChangesOnly, overwritten}
use Rattle.spool_disk.proofs.Moments.{started, at_return, weaker_run}
use Rattle.spool_disk.proofs.Ranges.{tells_still}
use Rattle.gate_journal.specs.Entries.{record_of, records, HasEntries, KeepsEntries}
use Rattle.gate_journal.specs.Frame.{payload_of}
use Rattle.gate_journal.specs.Staged.{gate_of, shown, IsBefore, KeepsStaged, IsBeforeOrAll}
use Rattle.gate_journal.specs.Stages.{ChangesGate}
use Rattle.gate_journal.proofs.Places.{records-append}
use Rattle.gate_journal.proofs.Steps.{length-records-push, both_written, torn_behind, record_written}

-- A byte and bytes after it, written in either order.
pub apart : (gate place x : ℕ) (from old : List ℕ) → gate < place → place + length from ≤ length old
    → overwritten gate (x ∷ []) (overwritten place from old) ≡ overwritten place from (overwritten gate (x ∷ []) old)
apart gate place x from old before fits =
    let rest = drop (place + length from) old in
    let n = place - (gate + 1) in
    let n_is : place ≡ gate + 1 + n = omega arith in
    let front : length (take place old) ≡ place = length-take-le place old (omega arith) in
    let parts : overwritten place from old ≡ take place old ++ (from ++ rest) = append_assoc (take place old) from rest in
    let head : take gate (overwritten place from old) ≡ take gate old =
    ap (take gate) parts ∙ take-append-le gate (take place old) (from ++ rest) (omega arith) ∙ take-take gate place old (omega arith) in
    let middle : drop (gate + 1) (take place old) ≡ take n (drop (gate + 1) old) = ap (λ (k : ℕ). drop (gate + 1) (take k old)) n_is ∙ drop-take (gate + 1) n old in
    let tail : drop (gate + 1) (overwritten place from old) ≡ take n (drop (gate + 1) old) ++ (from ++ rest) =
    ap (drop (gate + 1)) parts ∙ drop-append-le (gate + 1) (take place old) (from ++ rest) (omega arith) ∙ ap (λ (l : List ℕ). l ++ (from ++ rest)) middle in
    let opened : overwritten gate (x ∷ []) old ≡ take gate old ++ x ∷ drop (gate + 1) old = append_assoc (take gate old) (x ∷ []) (drop (gate + 1) old) in
    let gate_long : length (take gate old) ≡ gate = length-take-le gate old (omega arith) in
    let mid = take n (drop (gate + 1) old) in
    let mid_long : length mid ≡ n = length-take-le n (drop (gate + 1) old) (omega (arith, length-drop (gate + 1) old)) in
    let split : take gate old ++ x ∷ drop (gate + 1) old ≡ (take gate old ++ x ∷ mid) ++ drop place old =
    ap (λ (l : List ℕ). take gate old ++ x ∷ l) (sym (take-append-drop n (drop (gate + 1) old)) ∙ ap (λ (l : List ℕ). mid ++ l) (drop-drop n (gate + 1) old ∙ ap (λ (k : ℕ). drop k old) (sym n_is)))
    ∙ sym (append_assoc (take gate old) (x ∷ mid) (drop place old)) in
    let first = take gate old ++ x ∷ mid in
    let first_long : length first ≡ place = omega (arith, length-append (take gate old) (x ∷ mid), gate_long, mid_long) in
    let whole : overwritten gate (x ∷ []) old ≡ first ++ drop place old = opened ∙ split in
    let left : overwritten gate (x ∷ []) (overwritten place from old) ≡ first ++ (from ++ rest) =
    append_assoc (take gate (overwritten place from old)) (x ∷ []) (drop (gate + 1) (overwritten place from old))
    ∙ ap (λ (l : List ℕ). l ++ x ∷ drop (gate + 1) (overwritten place from old)) head
    ∙ ap (λ (l : List ℕ). take gate old ++ x ∷ l) tail
    ∙ sym (append_assoc (take gate old) (x ∷ mid) (from ++ rest)) in
    let right_head : take place (overwritten gate (x ∷ []) old) ≡ first =
    ap (take place) whole ∙ take_at first (drop place old) place first_long in
    let right_tail : drop (place + length from) (overwritten gate (x ∷ []) old) ≡ rest =
    ap (drop (place + length from)) whole ∙ ap (λ (k : ℕ). drop k (first ++ drop place old)) (let e : place + length from ≡ length first + length from = omega (arith, first_long) in e)
    ∙ drop-append-add first (drop place old) (length from) ∙ drop-drop (length from) place old in
    left
    ∙ sym (append_assoc first from rest)
    ∙ ap (λ (l : List ℕ). l ++ from ++ rest) (sym right_head)
    ∙ ap (λ (l : List ℕ). take place (overwritten gate (x ∷ []) old) ++ from ++ l) (sym right_tail)

-- The gate in front of the staged records is at the offset of the next record, or before it if something is staged.
pub gate_within : (held : Option ℕ) (place : ℕ) → IsBefore held place → gate_of held place ≤ place
gate_within None place before = omega arith
gate_within (Some gate) place before = let here = before gate refl in omega (arith, here)

pub gate_before : (held : Option ℕ) (gate place : ℕ) → held ≡ Some gate → IsBefore held place → gate_of held place < place
gate_before None gate place is before = absurd (cc is)
gate_before (Some held) gate place is before = before held refl

-- The bytes that a disk reports with the held gate open, after a record was written.
put_none : (held : Option ℕ) (place : ℕ) (from : List ℕ) (old mid : Option (List ℕ)) → held ≡ None → ((r : List ℕ) → old ≡ Some r → place + 1 + length from ≤ length r)
    → mid ≡ option_map (overwritten (place + 1) from) old → shown (Some (gate_of held place)) mid ≡ option_map (overwritten place (165 ∷ from)) (shown held old)
put_none None place from old mid is fits first = both_written place 165 from old mid _ fits first refl
put_none (Some gate) place from old mid is fits first = absurd (cc is)

pub put_first : (held : Option ℕ) (place : ℕ) (from : List ℕ) (old mid : Option (List ℕ)) → held ≡ None → ((r : List ℕ) → old ≡ Some r → place + 1 + length from ≤ length r)
    → mid ≡ option_map (overwritten (place + 1) from) old → shown (Some (gate_of held place)) mid ≡ option_map (overwritten place (165 ∷ from)) (shown held old)
put_first held place from old mid = put_none held place from old mid

apart_told : (gate place x : ℕ) (from : List ℕ) (old : Option (List ℕ)) → gate < place → ((r : List ℕ) → old ≡ Some r → place + length from ≤ length r)
    → option_map (overwritten gate (x ∷ [])) (option_map (overwritten place from) old) ≡ option_map (overwritten place from) (option_map (overwritten gate (x ∷ [])) old)
apart_told gate place x from (Some r) before fits = ap Some (apart gate place x from r before (fits r refl))
apart_told gate place x from None before fits = refl

pub put_more : (held : Option ℕ) (gate place : ℕ) (from : List ℕ) (old mid new : Option (List ℕ)) → held ≡ Some gate → IsBefore held place → ((r : List ℕ) → old ≡ Some r → place + 1 + length from ≤ length r)
    → mid ≡ option_map (overwritten (place + 1) from) old → new ≡ option_map (overwritten place (165 ∷ [])) mid → shown (Some (gate_of held place)) new ≡ option_map (overwritten place (165 ∷ from)) (shown held old)
put_more None gate place from old mid new is before fits first second = absurd (cc is)
put_more (Some held) gate place from old mid new is before fits first second =
    ap (option_map (overwritten held (165 ∷ []))) (both_written place 165 from old mid new fits first second)
    ∙ apart_told held place 165 (165 ∷ from) old (before held refl) (λ r tells. let here = fits r tells in omega (arith, here))

-- The bytes that a disk reports, if it reports any.
told_shown : (held : Option ℕ) (told : Option (List ℕ)) → IsSome told → (s : List ℕ) × (shown held told ≡ Some s)
told_shown None (Some r) is = (r, refl)
told_shown None None is = absurd (cc is)
told_shown (Some gate) (Some r) is = (overwritten gate (165 ∷ []) r, refl)
told_shown (Some gate) None is = absurd (cc is)

-- No record is empty.
nothing_more : (payloads staged : List (List ℕ)) → length (records payloads) ≡ length (records (payloads ++ staged)) → staged ≡ []
nothing_more payloads [] same = refl
nothing_more payloads (p ∷ staged) same =
    absurd (omega (arith, same, ap length (records-append payloads (p ∷ staged)), length-append (records payloads) (records (p ∷ staged)), length-append p (records staged)))

module _ {D : Type 0} (v : DiskView D) (lawful : IsLawful v) (base place : ℕ) (held : Option ℕ) (payloads staged : List (List ℕ)) (before : D) (keeps : KeepsStaged v before base place held payloads staged) where
  -- A change after the held gate leaves the entries of each image.
  pub behind_leaves : (after : D) (n : ℕ) → ChangesOnly v before after (gate_of held place + 1) n → LeavesOnly v before after (HasEntries base payloads)
  behind_leaves after n changes =
      weaker_run v before after (HasEntries base payloads) _ changes.images
      (λ c o. torn_behind base payloads (gate_of held place) keeps.gate_at n o.0 c (keeps.each o.0 o.1) o.2)

  -- One more record is staged.
  pub staged_more : (after : D) (payload : List ℕ) (n m : ℕ) → length payload < 2 ^ 32 → m ≡ 5 + length payload → ChangesOnly v before after (gate_of held place + 1) n
      → shown (Some (gate_of held place)) (v.bytes after) ≡ option_map (overwritten place (record_of payload ++ 0 ∷ [])) (shown held (v.bytes before))
      → KeepsStaged v after base (place + m) (Some (gate_of held place)) payloads (staged ++ payload ∷ [])
  staged_more after payload n m short len changes written =
      let has = told_shown held (v.bytes before) keeps.tells in
      let joined = append_assoc payloads staged (payload ∷ []) in
      record {
        tells = tells_still _ _ _ changes.bytes keeps.tells;
        each = λ c now. at_return v lawful before after (HasEntries base payloads) (behind_leaves after n changes) c now;
        behind = λ r is.
            let new = overwritten place (record_of payload ++ 0 ∷ []) has.0 in
            let r_is : new ≡ r = same_Some new r (sym (sym is ∙ written ∙ ap (option_map (overwritten place (record_of payload ++ 0 ∷ []))) has.1)) in
            subst (λ (l : List (List ℕ)). HasEntries base l r) joined
            (subst (HasEntries base (payloads ++ staged ++ payload ∷ [])) r_is
            (record_written base (payloads ++ staged) place keeps.place_at payload has.0 (keeps.behind has.0 has.1) short));
        gate_at = keeps.gate_at;
        place_at = omega (arith, keeps.place_at, len, length-records-push (payloads ++ staged) payload, ap (λ (l : List (List ℕ)). length (records l)) joined);
      }

  -- If no gate is held, nothing is staged.
  pub settled_none : held ≡ None → KeepsEntries v before base place (payloads ++ staged)
  settled_none is =
      let gate : place ≡ base + length (records payloads) = ap (λ (h : Option ℕ). gate_of h place) (sym is) ∙ keeps.gate_at in
      let none = nothing_more payloads staged (omega (arith, gate, keeps.place_at)) in
      record {
        tells = keeps.tells;
        each = λ c now. subst (λ (l : List (List ℕ)). HasEntries base (payloads ++ l) c) (sym none) (subst (λ (l : List (List ℕ)). HasEntries base l c) (sym (append-nil payloads)) (keeps.each c now));
        gate_at = keeps.place_at;
      }

  pub stays_before : LeavesOnly v before before (IsBeforeOrAll base payloads staged)
  stays_before = started v before (IsBeforeOrAll base payloads staged) (λ c left. inl (keeps.each c (lawful.only_now before c left)))

pub shown_none : (held : Option ℕ) (told : Option (List ℕ)) → held ≡ None → told ≡ shown held told
shown_none None told is = refl
shown_none (Some gate) told is = absurd (cc is)

pub no_gate : {D : Type 0} (v : DiskView D) (d : D) (held : Option ℕ) → held ≡ None → ChangesGate v d d held
no_gate v d None is = refl
no_gate v d (Some gate) is = absurd (cc is)

-- The length of a frame.
pub payload_length : (frame : List ℕ) → 5 ≤ length frame → 5 + length (payload_of frame) ≡ length frame
payload_length frame whole = omega (arith, length-take (length frame - 5) (drop 4 frame), length-drop 4 frame)
