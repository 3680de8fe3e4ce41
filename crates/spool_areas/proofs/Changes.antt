-- A change over to the other area: its header is closed, the area is filled, and its header is opened.
use Rattle.std.proofs.Common.{◌≡◌, ◌≢◌, inl, inr, ⊎_elim, ℕ, ◌+◌, ◌-◌, ◌<◌, ◌≤◌, ◌^◌, List, [], ◌∷◌, Some, length, get_or, take, drop, refl, sym, ◌∙◌, ap, subst, arith, append_assoc}
use Rattle.std.proofs.lemmas.Bool.{cases_eq}
use Rattle.std.proofs.lemmas.List.{get_or_at, length-take-le}
use Rattle.std.specs.Prelude.{IsSome}
use Rattle.std.specs.Option.{option_map}
use Rattle.spool_disk.specs.Disk.{DiskView, IsLawful, overwritten, SameOutside, Tells, IsOldOutside, IsSynced, IsWritten, LeavesOnly}
use Rattle.spool_disk.proofs.Moments.{started, runs_on, weaker_run, at_return}
use Rattle.spool_disk.proofs.Ranges.{wider, twice, told, tells_still}
use Rattle.gate_journal.specs.Entries.{KeepsEntries}
use Rattle.spool_areas.specs.Header.{half, least_area, header_len, header_at, newest_version, epoch_of}
use Rattle.spool_areas.specs.Payloads.{HasVersionAndPayloads}
use Rattle.spool_areas.specs.Checkpoint.{HasHeader, HasOldOrNew, IsClosing, Stands, StandsNew, ChangesOver}
use Rattle.spool_areas.proofs.Chosen.{AreTwo}
use Rattle.spool_areas.proofs.Switch.{stands, epoch_stands, switched, all_same, same_byte}
use Rattle.spool_areas.proofs.Filled.{told_same}

written_byte : (at x : ℕ) (old new : List ℕ) → at < length old → new ≡ overwritten at (x ∷ []) old → get_or new at 0 ≡ x
written_byte at x old new inside is =
    ap (λ (l : List ℕ). get_or l at 0) (is ∙ append_assoc (take at old) (x ∷ []) (drop (at + 1) old)) ∙ get_or_at (take at old) x (drop (at + 1) old) 0 at (length-take-le at old (omega arith))

module _ {D : Type 0} (v : DiskView D) (lawful : IsLawful v)
    (old : D) (len base other epoch version : ℕ) (payloads : List (List ℕ)) (st : Stands v old len base other epoch version payloads) (is_half : len ≡ half (v.size old)) (least : least_area ≤ len) where
  abbrev Old : List ℕ → Type 0
  Old = HasVersionAndPayloads base version payloads

  -- The bytes that the disk reported at the start.
  first : (r : List ℕ) × (v.bytes old ≡ Some r)
  first = told (v.bytes old) st.tells

  first_len : length first.0 ≡ v.size old
  first_len = lawful.image_size old first.0 (lawful.reads_image old first.0 first.1)

  first_has : Old first.0
  first_has = st.each first.0 (lawful.reads_image old first.0 first.1)

  long : least_area ≤ half (v.size old)
  long = omega (arith, is_half, least)

  two : AreTwo (half (v.size old)) base other
  two = subst (λ (n : ℕ). AreTwo n base other) is_half st.two

  inside : other < v.size old
  inside = ⊎_elim (λ t. omega (arith, t.1, is_half, least)) (λ t. omega (arith, t.1, is_half, least)) st.two

  -- While the other gate is closed.
  old_stands : (c : List ℕ) → SameOutside other len first.0 c → (get_or c other 0 ≡ 165 → ⊥) → Old c
  old_stands c same closed = stands (v.size old) base other long two version payloads first.0 c first_len first_has (subst (λ (n : ℕ). SameOutside other n first.0 c) is_half same) closed

  closing : (c : List ℕ) → IsClosing v old other c → Old c
  closing c (inl now) = st.each c now
  closing c (inr (o, opened)) =
      let same : SameOutside other 1 first.0 c = subst (λ l. SameOutside other 1 l c) (st.synced first.0 first.1 o.0 o.1) o.2 in
      ⊎_elim
      (λ still. subst Old (sym (all_same other first.0 c (omega (arith, inside, first_len)) same (still ∙ sym (opened first.0 first.1)))) first_has)
      (λ closed. old_stands c (wider other 1 other len first.0 c (omega arith) (omega (arith, least)) same) closed)
      (cases_eq (get_or c other 0) 165)

  -- 1. The header is closed.
  pub part_one : (mid : D) → LeavesOnly v old mid (IsClosing v old other) → LeavesOnly v old mid Old
  part_one mid run = weaker_run v old mid Old (IsClosing v old other) run closing

  -- A run that ends before the header is opened.
  pub ends_old : (other_payloads : List (List ℕ)) (mid : D) → LeavesOnly v old mid Old → ChangesOver v old mid base version payloads other other_payloads
  ends_old rows mid run =
      (mid, run, started v mid (HasOldOrNew base version payloads other rows) (λ c left. inl (at_return v lawful old mid Old run c (lawful.only_now mid c left))))

  module _ (mid : D) (run : LeavesOnly v old mid (IsClosing v old other)) (stays : Tells (SameOutside other 1) (v.bytes old) (v.bytes mid))
      (closed : (r : List ℕ) → v.bytes mid ≡ Some r → get_or r other 0 ≢ 165) (synced : IsSynced v mid) where
    second : (r : List ℕ) × (v.bytes mid ≡ Some r)
    second = told (v.bytes mid) (tells_still (SameOutside other 1) (v.bytes old) (v.bytes mid) stays st.tells)

    second_same : SameOutside other len first.0 second.0
    second_same = wider other 1 other len first.0 second.0 (omega arith) (omega (arith, least)) (told_same other 1 first.0 second.0 (v.bytes old) (v.bytes mid) first.1 stays second.1)

    filling : (c : List ℕ) → IsOldOutside (v.image mid) (other + 1) (len - 1) c → Old c
    filling c o =
        let same : SameOutside (other + 1) (len - 1) second.0 c = subst (λ l. SameOutside (other + 1) (len - 1) l c) (synced second.0 second.1 o.0 o.1) o.2 in
        let gate = same_byte (other + 1) (len - 1) second.0 c other (omega arith) same in
        old_stands c (twice other len first.0 second.0 c second_same (wider (other + 1) (len - 1) other len second.0 c (omega arith) (omega (arith, least)) same))
        (λ is. closed second.0 second.1 (sym gate ∙ is))

    -- 2. The area is filled.
    pub part_two : (filled : D) → LeavesOnly v mid filled (IsOldOutside (v.image mid) (other + 1) (len - 1)) → LeavesOnly v old filled Old
    part_two filled fill = runs_on v old mid filled Old (IsOldOutside (v.image mid) (other + 1) (len - 1)) (part_one mid run) fill filling

    module _ (filled : D) (fill : LeavesOnly v mid filled (IsOldOutside (v.image mid) (other + 1) (len - 1))) (fill_stays : Tells (SameOutside (other + 1) (len - 1)) (v.bytes mid) (v.bytes filled))
        (filled_synced : IsSynced v filled) (rows : List (List ℕ)) (new_epoch place : ℕ) (newer : epoch < new_epoch) (fits : new_epoch < 2 ^ 64)
        (header : (r : List ℕ) → v.bytes filled ≡ Some r → HasHeader other new_epoch r) (entries : IsSome (v.bytes mid) → KeepsEntries v filled (other + header_len) place rows) (within : place < other + len) where
      mid_tells : IsSome (v.bytes mid)
      mid_tells = tells_still (SameOutside other 1) (v.bytes old) (v.bytes mid) stays st.tells

      third : (r : List ℕ) × (v.bytes filled ≡ Some r)
      third = told (v.bytes filled) (tells_still (SameOutside (other + 1) (len - 1)) (v.bytes mid) (v.bytes filled) fill_stays mid_tells)

      kept : KeepsEntries v filled (other + header_len) place rows
      kept = entries mid_tells

      third_behind : SameOutside (other + 1) (len - 1) second.0 third.0
      third_behind = told_same (other + 1) (len - 1) second.0 third.0 (v.bytes mid) (v.bytes filled) second.1 fill_stays third.1

      third_same : SameOutside other len first.0 third.0
      third_same = twice other len first.0 second.0 third.0 second_same (wider (other + 1) (len - 1) other len second.0 third.0 (omega arith) (omega (arith, least)) third_behind)

      third_has : Old third.0
      third_has = at_return v lawful old filled Old (part_two filled fill) third.0 (lawful.reads_image filled third.0 third.1)

      third_epoch : epoch_of (header_at base third.0) ≡ epoch
      third_epoch =
          epoch_stands (v.size old) base other long two first.0 third.0 (subst (λ (n : ℕ). SameOutside other n first.0 third.0) is_half third_same)
          ∙ st.epoch_is first.0 (lawful.reads_image old first.0 first.1)

      third_len : length third.0 ≡ v.size old
      third_len = third_same.size ∙ first_len

      new_stands : (c : List ℕ) → SameOutside other 1 third.0 c → get_or c other 0 ≡ 165 → HasVersionAndPayloads other newest_version rows c × (epoch_of (header_at other c) ≡ new_epoch)
      new_stands c same opened =
          switched (v.size old) base other long two payloads rows new_epoch third.0 c third_len third_has.area (omega (arith, third_epoch, newer)) fits
          (header third.0 third.1) (kept.each third.0 (lawful.reads_image filled third.0 third.1)) (omega (arith, kept.gate_at, within, is_half)) same opened

      opening : (c : List ℕ) → IsOldOutside (v.image filled) other 1 c → HasOldOrNew base version payloads other rows c
      opening c o =
          let same : SameOutside other 1 third.0 c = subst (λ l. SameOutside other 1 l c) (filled_synced third.0 third.1 o.0 o.1) o.2 in
          ⊎_elim
          (λ opened. inr (new_stands c same opened).0)
          (λ closed. inl (old_stands c (twice other len first.0 third.0 c third_same (wider other 1 other len third.0 c (omega arith) (omega (arith, least)) same)) closed))
          (cases_eq (get_or c other 0) 165)

      -- 3. The header is opened.
      pub part_three : (new : D) → LeavesOnly v filled new (IsOldOutside (v.image filled) other 1) → ChangesOver v old new base version payloads other rows
      part_three new run_on = (filled, part_two filled fill, weaker_run v filled new (HasOldOrNew base version payloads other rows) (IsOldOutside (v.image filled) other 1) run_on opening)

      pub changed : (new : D) → Tells (SameOutside other 1) (v.bytes filled) (v.bytes new) → IsWritten v filled new other (165 ∷ []) → IsSynced v new → StandsNew v new other new_epoch place rows
      changed new opened_stays written new_synced =
          let there = overwritten other (165 ∷ []) third.0 in
          let tells : v.bytes new ≡ Some there = written ∙ ap (option_map (overwritten other (165 ∷ []))) third.1 in
          let same : SameOutside other 1 third.0 there = told_same other 1 third.0 there (v.bytes filled) (v.bytes new) third.1 opened_stays tells in
          let now = new_stands there same (written_byte other 165 third.0 there (omega (arith, inside, third_len)) refl) in
          record {
            tells = tells_still (SameOutside other 1) (v.bytes filled) (v.bytes new) opened_stays kept.tells;
            each = λ c left. subst (HasVersionAndPayloads other newest_version rows) (sym (new_synced there tells c left)) now.0;
            epoch_is = λ c left. subst (λ l. epoch_of (header_at other l) ≡ new_epoch) (sym (new_synced there tells c left)) now.1;
            gate_at = kept.gate_at;
          }
