-- The bytes after `make`.
use Rattle.std.proofs.Common.{◌≡◌, inl, inr, ⊎_elim, ℕ, ◌+◌, ◌-◌, ◌≤◌, ◌<◌, List, [], ◌∷◌, ◌++◌, suc, false, Option, Some, None, Ok, length, get_or, take, drop, refl, sym, ◌∙◌, ap, subst, arith, append_assoc, length-drop}
use Rattle.std.proofs.Math.Seq.{get_or-append_right}
use Rattle.std.proofs.lemmas.List.{get_or-take, get_or-drop, get_or_at, length-take-le, drop-drop, drop_more}
use Rattle.std.proofs.lemmas.Bool.{le-ltb, cases_eq}
use Rattle.std.specs.Option.{option_map}
use Rattle.std.specs.Prelude.{◌==◌, ◌&&◌, not, if◌then◌else◌, Err, IsSome}
use Rattle.spool_disk.specs.Disk.{DiskView, IsLawful, overwritten, SameOutside, Tells, IsOldOutside, IsSynced, LeavesOnly}
use Rattle.spool_disk.proofs.Moments.{weaker_run, runs_on, at_return}
use Rattle.spool_disk.proofs.Ranges.{same_all, told}
use Rattle.spool_disk.proofs.Writes.{overwrites}
use Rattle.spool_areas.specs.declared.fault.OpenFault.TheVariants.{NotASpool, Damaged}
use Rattle.spool_areas.specs.Header.{half, least_area, header_at, header_behind_gate, first_epoch, newest_version, is_open, is_known, epoch_of, newer, chosen, current_area}
use Rattle.spool_areas.specs.Making.{empty_spool, IsOldButGates, IsNoSpoolOrEmpty, ClosesFirst}
use Rattle.spool_areas.specs.Payloads.{HasVersionAndPayloads}
use Rattle.spool_areas.proofs.Headers.{by_headers}
use Rattle.spool_areas.proofs.Filled.{told_same}
use Rattle.spool_areas.proofs.Switch.{is_closed, same_byte}

-- The first bytes of area 0, followed by `rest`.
abbrev pub first_area : List ℕ → List ℕ
first_area rest = 165 ∷ (header_behind_gate first_epoch ++ 0 ∷ rest)

-- The header and the gate after it are written, and then the gate before it.
laid : (old : List ℕ) → 0 < length old → overwritten 0 (165 ∷ []) (overwritten 16 (0 ∷ []) (overwritten 1 (header_behind_gate first_epoch) old)) ≡ first_area (drop 17 old)
laid [] some = absurd (omega arith)
laid (x ∷ old) some = ap first_area (drop-drop 1 15 old)

-- The second area's gate, which is after the first area's.
other_gate : (second : ℕ) (rest : List ℕ) → 17 ≤ second → get_or rest (second - 17) 0 ≡ 0 → is_open (header_at second (first_area rest)) ≡ false
other_gate second rest behind closed =
    let at : second + 0 ≡ second = omega arith in
    ap (λ gate. gate == 165)
    (get_or-take 16 (drop second (first_area rest)) 0 0 (omega arith) ∙ get_or-drop second (first_area rest) 0 0 ∙ ap (λ (n : ℕ). get_or (first_area rest) n 0) at
    ∙ get_or-append_right (165 ∷ (header_behind_gate first_epoch ++ 0 ∷ [])) rest second 0 behind ∙ closed)

-- If the second header is closed, the first area is current.
chosen_first : (second : ℕ) (rest other : List ℕ) → is_open other ≡ false → chosen second (header_at 0 (first_area rest)) other ≡ Ok 0
chosen_first second rest other shut =
    let header = header_at 0 (first_area rest) in
    ap (λ open_other. if open_other && not (is_known other) then Err (Damaged second)
    else if open_other then newer second (epoch_of header) (epoch_of other)
    else Ok 0) shut

-- If both headers are closed, no area is current.
chosen_none : (second : ℕ) (header other : List ℕ) → is_open header ≡ false → is_open other ≡ false → chosen second header other ≡ Err NotASpool
chosen_none second header other shut other_shut =
    ap (λ o. if o && not (is_known header) then Err (Damaged 0)
    else if is_open other && not (is_known other) then Err (Damaged second)
    else if o && is_open other then newer second (epoch_of header) (epoch_of other)
    else if o then Ok 0
    else if is_open other then Ok second
    else Err NotASpool) shut
    ∙ ap (λ o. if o && not (is_known other) then Err (Damaged second)
    else if o then Ok second
    else Err NotASpool) other_shut

is_empty : (rest : List ℕ) → least_area ≤ half (length (first_area rest)) → get_or rest (half (length (first_area rest)) - 17) 0 ≡ 0 → HasVersionAndPayloads 0 newest_version [] (first_area rest)
is_empty rest room closed =
    let second = half (length (first_area rest)) in
    let header = header_at 0 (first_area rest) in
    let other = header_at second (first_area rest) in
    record {
      area = record {
        current =
            ap (λ short. if short then Err NotASpool else chosen second header other) (le-ltb second least_area room)
            ∙ chosen_first second rest other (other_gate second rest (omega (arith, room)) closed);
        entries = record { short = tt; gate = 0; rest = rest; closed = λ is. absurd (omega (arith, is)); stands = refl };
        within = omega (arith, room);
      };
      version_is = refl;
    }

-- A closed gate was written there.
closed_at : (second : ℕ) (old : List ℕ) → second < length old → get_or (overwritten second (0 ∷ []) old) second 0 ≡ 0
closed_at second old inside =
    ap (λ (l : List ℕ). get_or l second 0) (append_assoc (take second old) (0 ∷ []) (drop (second + 1) old))
    ∙ get_or_at (take second old) 0 (drop (second + 1) old) 0 second (length-take-le second old (omega arith))

-- A byte after those that changed.
later_byte : (at n : ℕ) (old new : List ℕ) (k : ℕ) → at + n ≤ k → SameOutside at n old new → get_or new k 0 ≡ get_or old k 0
later_byte at n old new k behind same =
    let far : at + n + (k - (at + n)) ≡ k = omega arith in
    ap (λ (i : ℕ). get_or new i 0) (sym far) ∙ sym (get_or-drop (at + n) new (k - (at + n)) 0) ∙ ap (λ (l : List ℕ). get_or l (k - (at + n)) 0) same.after
    ∙ get_or-drop (at + n) old (k - (at + n)) 0 ∙ ap (λ (i : ℕ). get_or old i 0) far

-- If only the first byte changed, the bytes are the old ones overwritten with it.
first_byte : (x : ℕ) (old new : List ℕ) → 0 < length new → SameOutside 0 1 old new → get_or new 0 0 ≡ x → new ≡ overwritten 0 (x ∷ []) old
first_byte x old new some same is = drop_more new 0 0 some ∙ ap (λ (b : ℕ). b ∷ drop 1 new) is ∙ ap (λ (l : List ℕ). x ∷ l) same.after

-- The bytes after the start of area 0 do not depend on the first byte, also if a later gate is closed.
behind_byte : (k x : ℕ) (rest : List ℕ) → drop 17 (overwritten (suc k) (0 ∷ []) (x ∷ rest)) ≡ drop 16 ((take k rest ++ 0 ∷ []) ++ drop (suc k) rest)
behind_byte k x rest =
    let is : suc k + 1 ≡ suc (suc k) = omega arith in
    ap (λ (m : ℕ). drop 17 ((take (suc k) (x ∷ rest) ++ 0 ∷ []) ++ drop m (x ∷ rest))) is

-- The bytes after both gates were closed.
abbrev closed_of : ℕ → List ℕ → List ℕ
closed_of second r = overwritten second (0 ∷ []) (overwritten 0 (0 ∷ []) r)

behind_first : (second : ℕ) (r : List ℕ) → 17 ≤ second → 0 < length r → drop 17 (closed_of second r) ≡ drop 17 (overwritten second (0 ∷ []) r)
behind_first second [] behind some = absurd (omega arith)
behind_first second (x ∷ rest) behind some =
    let is : second ≡ suc (second - 1) = omega arith in
    ap (λ (n : ℕ). drop 17 (overwritten n (0 ∷ []) (0 ∷ rest))) is ∙ behind_byte (second - 1) 0 rest ∙ sym (behind_byte (second - 1) x rest) ∙ ap (λ (n : ℕ). drop 17 (overwritten n (0 ∷ []) (x ∷ rest))) (sym is)

module _ (second : ℕ) (r : List ℕ) (is_half : second ≡ half (length r)) (room : least_area ≤ second) where
  one : SameOutside 0 1 r (overwritten 0 (0 ∷ []) r)
  one = overwrites 0 (0 ∷ []) r (omega (arith, room, is_half))

  two : SameOutside second 1 (overwritten 0 (0 ∷ []) r) (closed_of second r)
  two = overwrites second (0 ∷ []) (overwritten 0 (0 ∷ []) r) (omega (arith, room, is_half, one.size))

  closed_len : length (closed_of second r) ≡ length r
  closed_len = two.size ∙ one.size

  first_gate : get_or (closed_of second r) 0 0 ≡ 0
  first_gate = same_byte second 1 (overwritten 0 (0 ∷ []) r) (closed_of second r) 0 (omega (arith, room)) two ∙ closed_at 0 r (omega (arith, room, is_half))

  second_gate : get_or (closed_of second r) second 0 ≡ 0
  second_gate = closed_at second (overwritten 0 (0 ∷ []) r) (omega (arith, room, is_half, one.size))

  -- All bytes that are written, in order.
  all_laid : overwritten 0 (165 ∷ []) (overwritten 16 (0 ∷ []) (overwritten 1 (header_behind_gate first_epoch) (closed_of second r))) ≡ empty_spool r
  all_laid =
      laid (closed_of second r) (omega (arith, room, is_half, closed_len)) ∙ ap first_area (behind_first second r (omega (arith, room)) (omega (arith, room, is_half)))
      ∙ ap (λ (n : ℕ). first_area (drop 17 (overwritten n (0 ∷ []) r))) is_half

  empty : HasVersionAndPayloads 0 newest_version [] (empty_spool r)
  empty =
      let w = overwritten second (0 ∷ []) r in
      let rest = drop 17 w in
      let size_w : length w ≡ length r = (overwrites second (0 ∷ []) r (omega (arith, room, is_half))).size in
      let same : half (length (first_area rest)) ≡ second = omega (arith, length-drop 17 w, size_w, room, is_half) in
      let behind : 17 + (second - 17) ≡ second = omega (arith, room) in
      let closed : get_or rest (second - 17) 0 ≡ 0 =
      get_or-drop 17 w (second - 17) 0 ∙ ap (λ (n : ℕ). get_or w n 0) behind ∙ closed_at second r (omega (arith, room, is_half)) in
      subst (HasVersionAndPayloads 0 newest_version []) (ap (λ (n : ℕ). first_area (drop 17 (overwritten n (0 ∷ []) r))) is_half)
      (is_empty rest (omega (arith, same, room)) (ap (λ (n : ℕ). get_or rest (n - 17) 0) same ∙ closed))

pub made : (second size : ℕ) (old new : Option (List ℕ)) → second ≡ half size → least_area ≤ second → ((r : List ℕ) → old ≡ Some r → length r ≡ size)
    → new ≡ option_map (overwritten 0 (165 ∷ [])) (option_map (overwritten 16 (0 ∷ [])) (option_map (overwritten 1 (header_behind_gate first_epoch)) (option_map (overwritten second (0 ∷ [])) (option_map (overwritten 0 (0 ∷ [])) old))))
    → new ≡ option_map empty_spool old
made second size None new is_half room long is = is
made second size (Some r) new is_half room long is = is ∙ ap Some (all_laid second r (is_half ∙ ap half (sym (long r refl))) room)

-- The only image is the bytes that the disk reports.
pub each_made : (size : ℕ) (image : List ℕ → Type 0) (old new : Option (List ℕ)) → least_area ≤ half size → ((r : List ℕ) → old ≡ Some r → length r ≡ size) → new ≡ option_map empty_spool old
    → ((r : List ℕ) → new ≡ Some r → (c : List ℕ) → image c → c ≡ r) → IsSome old → (c : List ℕ) → image c → HasVersionAndPayloads 0 newest_version [] c
each_made size image (Some r) new room long is synced told c now =
    subst (HasVersionAndPayloads 0 newest_version []) (sym (synced (empty_spool r) is c now)) (empty (half (length r)) r refl (omega (arith, room, ap half (long r refl))))
each_made size image None new room long is synced told c now = absurd (cc told)

pub still_told : (old new : Option (List ℕ)) → new ≡ option_map empty_spool old → IsSome old → IsSome new
still_told (Some r) new is told = subst (λ (o : Option (List ℕ)). IsSome o) (sym is) refl
still_told None new is told = absurd (cc told)

module _ {D : Type 0} (v : DiskView D) (lawful : IsLawful v) where
  -- 1. The gates are closed, first that of area 0.
  pub close_one : (old new : D) (second : ℕ) → LeavesOnly v old new (IsOldOutside (v.image old) 0 1) → LeavesOnly v old new (IsOldButGates (v.image old) second)
  close_one old new second run = weaker_run v old new (IsOldButGates (v.image old) second) _ run (λ c o. (c, o, same_all second 1 c))

  pub close_both : (old mid new : D) (second : ℕ) → LeavesOnly v old mid (IsOldOutside (v.image old) 0 1) → LeavesOnly v mid new (IsOldOutside (v.image mid) second 1) → LeavesOnly v old new (IsOldButGates (v.image old) second)
  close_both old mid new second first run =
      runs_on v old mid new (IsOldButGates (v.image old) second) _ (close_one old mid second first) run (λ c o. (o.0, at_return v lawful old mid _ first o.0 o.1, o.2))

  pub closed_still : (old mid new : D) (second : ℕ) → LeavesOnly v old mid (IsOldButGates (v.image old) second) → LeavesOnly v mid new (v.image mid) → LeavesOnly v old new (IsOldButGates (v.image old) second)
  closed_still old mid new second first run = runs_on v old mid new (IsOldButGates (v.image old) second) _ first run (at_return v lawful old mid _ first)

  module _ (old closed : D) (tells : IsSome (v.bytes old)) (room : least_area ≤ half (v.size old))
      (closing : LeavesOnly v old closed (IsOldButGates (v.image old) (half (v.size old))))
      (written : v.bytes closed ≡ option_map (overwritten (half (v.size old)) (0 ∷ [])) (option_map (overwritten 0 (0 ∷ [])) (v.bytes old))) (synced : IsSynced v closed) where
    abbrev second : ℕ
    second = half (v.size old)

    first : (r : List ℕ) × (v.bytes old ≡ Some r)
    first = told (v.bytes old) tells

    long : length first.0 ≡ v.size old
    long = lawful.image_size old first.0 (lawful.reads_image old first.0 first.1)

    is_half : second ≡ half (length first.0)
    is_half = ap half (sym long)

    abbrev shut : List ℕ
    shut = closed_of second first.0

    shut_is : v.bytes closed ≡ Some shut
    shut_is = written ∙ ap (λ o. option_map (overwritten second (0 ∷ [])) (option_map (overwritten 0 (0 ∷ [])) o)) first.1

    shut_len : length shut ≡ v.size old
    shut_len = closed_len second first.0 is_half room ∙ long

    no_spool : (c : List ℕ) → length c ≡ v.size old → (get_or c 0 0 ≡ 165 → ⊥) → (get_or c second 0 ≡ 165 → ⊥) → current_area c ≡ Err NotASpool
    no_spool c size first_shut second_shut =
        by_headers (v.size old) c (header_at 0 c) (header_at second c) (Err NotASpool) size room refl refl
        (sym (chosen_none second (header_at 0 c) (header_at second c) (is_closed 0 c first_shut) (is_closed second c second_shut)))

    filling : (c : List ℕ) → IsOldOutside (v.image closed) 1 16 c → IsNoSpoolOrEmpty c
    filling c o =
        let same : SameOutside 1 16 shut c = subst (λ l. SameOutside 1 16 l c) (synced shut shut_is o.0 o.1) o.2 in
        let gate : get_or c 0 0 ≡ 0 = same_byte 1 16 shut c 0 (omega arith) same ∙ first_gate second first.0 is_half room in
        let other : get_or c second 0 ≡ 0 = later_byte 1 16 shut c second (omega (arith, room)) same ∙ second_gate second first.0 is_half room in
        inl (no_spool c (same.size ∙ shut_len) (λ is. absurd (omega (arith, is, gate))) (λ is. absurd (omega (arith, is, other))))

    -- 2. Area 0 is filled.
    pub while_filled : (new : D) → LeavesOnly v closed new (IsOldOutside (v.image closed) 1 16) → ClosesFirst v old new IsNoSpoolOrEmpty
    while_filled new run = inr (closed, closing, weaker_run v closed new IsNoSpoolOrEmpty _ run filling)

    module _ (filled : D) (fill : LeavesOnly v closed filled (IsOldOutside (v.image closed) 1 16)) (stays : Tells (SameOutside 1 16) (v.bytes closed) (v.bytes filled))
        (filled_written : v.bytes filled ≡ option_map (overwritten 16 (0 ∷ [])) (option_map (overwritten 1 (header_behind_gate first_epoch)) (v.bytes closed))) (filled_synced : IsSynced v filled) where
      abbrev full : List ℕ
      full = overwritten 16 (0 ∷ []) (overwritten 1 (header_behind_gate first_epoch) shut)

      full_is : v.bytes filled ≡ Some full
      full_is = filled_written ∙ ap (λ o. option_map (overwritten 16 (0 ∷ [])) (option_map (overwritten 1 (header_behind_gate first_epoch)) o)) shut_is

      full_same : SameOutside 1 16 shut full
      full_same = told_same 1 16 shut full (v.bytes closed) (v.bytes filled) shut_is stays full_is

      opening : (c : List ℕ) → IsOldOutside (v.image filled) 0 1 c → IsNoSpoolOrEmpty c
      opening c o =
          let same : SameOutside 0 1 full c = subst (λ l. SameOutside 0 1 l c) (filled_synced full full_is o.0 o.1) o.2 in
          let size : length c ≡ v.size old = same.size ∙ full_same.size ∙ shut_len in
          let other : get_or c second 0 ≡ 0 =
          later_byte 0 1 full c second (omega (arith, room)) same ∙ later_byte 1 16 shut full second (omega (arith, room)) full_same ∙ second_gate second first.0 is_half room in
          ⊎_elim
          (λ opened. inr (subst (HasVersionAndPayloads 0 newest_version []) (sym (first_byte 165 full c (omega (arith, size, room)) same opened ∙ all_laid second first.0 is_half room)) (empty second first.0 is_half room)))
          (λ still. inl (no_spool c size still (λ is. absurd (omega (arith, is, other)))))
          (cases_eq (get_or c 0 0) 165)

      -- 3. Its header is opened.
      pub while_opened : (new : D) → LeavesOnly v filled new (IsOldOutside (v.image filled) 0 1) → ClosesFirst v old new IsNoSpoolOrEmpty
      while_opened new run = inr (closed, closing, runs_on v closed filled new IsNoSpoolOrEmpty _ (weaker_run v closed filled IsNoSpoolOrEmpty _ fill filling) run opening)
