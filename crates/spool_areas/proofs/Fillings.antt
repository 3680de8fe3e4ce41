-- The steps of a change over: beginning, adding rows, and opening.
use Rattle.std.proofs.Common.{inl, ◌≡◌, ◌≢◌, ℕ, ◌+◌, ◌-◌, ◌<◌, ◌≤◌, ◌^◌, List, [], ◌∷◌, ◌++◌, Some, length, get_or, take, drop, refl, sym, ◌∙◌, ap, subst, arith, append_assoc, length-append}
use Rattle.std.proofs.lemmas.List.{take_at, drop-take, drop-append-le, length-take-le, append-nil}
use Rattle.std.specs.Prelude.{IsSome, Result, Ok, Err, IfOk, OnOk}
use Rattle.std.specs.Option.{option_map}
use Rattle.spool_disk.specs.Disk.{DiskView, IsLawful, overwritten, SameOutside, Tells, IsSynced, IsWritten, LeavesOnly, ChangesNothing, ChangesOnly}
use Rattle.spool_disk.proofs.Moments.{started, at_return, part_then, then_still, wider_change}
use Rattle.spool_disk.proofs.Ranges.{wider, told, tells_still}
use Rattle.gate_journal.specs.Entries.{AreShort, record_of, records, HasEntries, KeepsEntries}
use Rattle.gate_journal.proofs.Places.{records-append}
use Rattle.gate_journal.proofs.Steps.{short-push, begun}
use Rattle.spool_areas.specs.Header.{header_len, header_behind_gate}
use Rattle.spool_areas.specs.Payloads.{HasVersionAndPayloads}
use Rattle.spool_areas.specs.Checkpoint.{HasHeader, HasOldOrNew, IsClosing, StandsNew, ChangesOver}
use Rattle.spool_areas.specs.AreaFilling.{Change, CanChange, HasWritten, Fills}
use Rattle.spool_areas.proofs.Filled.{told_same, header_kept}
use Rattle.spool_areas.proofs.Changes.{part_two, part_three, ends_old, changed}

-- ## Answers

pub with_ok : {T E A : Type 0} {P Q : T → Type 0} (r : Result T E) → IfOk r P → OnOk r A → ((y : T) → P y → A → Q y) → IfOk r Q
with_ok (Ok y) p a f = f y p a
with_ok (Err e) p a f = tt

-- ## Lists of rows

short-append : (some others : List (List ℕ)) → AreShort some → AreShort others → AreShort (some ++ others)
short-append [] others a b = b
short-append (p ∷ some) others a b = (a.0, short-append some others a.1 b)

-- A block without bytes has no records.
none_left : (others : List (List ℕ)) → [] ≡ records others → others ≡ []
none_left [] is = refl
none_left (p ∷ others) is = absurd (cc is)

length-records : (some others : List (List ℕ)) → length (records (some ++ others)) ≡ length (records some) + length (records others)
length-records some others = ap length (records-append some others) ∙ length-append (records some) (records others)

-- Records written over the closed gate, followed by a closed gate.
pub rows_added : (base gate : ℕ) (rows others : List (List ℕ)) (old : List ℕ) → AreShort others → gate ≡ base + length (records rows) → gate + (length (records others) + 1) ≤ length old
    → HasEntries base rows old → HasEntries base (rows ++ others) (overwritten gate (records others ++ 0 ∷ []) old)
rows_added base gate rows others old short at fits has =
    let part = records others ++ 0 ∷ [] in
    let rest = drop (gate + length part) old in
    let n = length (records rows) in
    let long : length (take gate old) ≡ gate = length-take-le gate old (omega (arith, fits)) in
    let front : drop base (take gate old) ≡ records rows =
    ap (λ (k : ℕ). drop base (take k old)) at ∙ drop-take base n old ∙ ap (take n) has.stands ∙ take_at (records rows) (has.gate ∷ has.rest) n refl in
    record {
      short = short-append rows others has.short short;
      gate = 0;
      rest = rest;
      closed = λ is. absurd (omega (arith, is));
      stands =
          ap (drop base) (append_assoc (take gate old) part rest) ∙ drop-append-le base (take gate old) (part ++ rest) (omega (arith, long, at))
          ∙ ap (λ (l : List ℕ). l ++ (part ++ rest)) front
          ∙ ap (λ (l : List ℕ). records rows ++ l) (append_assoc (records others) (0 ∷ []) rest)
          ∙ sym (append_assoc (records rows) (records others) (0 ∷ rest))
          ∙ ap (λ (l : List ℕ). l ++ 0 ∷ rest) (sym (records-append rows others));
    }

-- A header before the bytes that change.
pub header_before : (other epoch n : ℕ) (old new : List ℕ) → SameOutside (other + 16) n old new → HasHeader other epoch old → HasHeader other epoch new
header_before other epoch n old new same has =
    let at : other + 16 ≡ other + 1 + 15 = omega arith in
    let front : take (other + 1 + 15) new ≡ take (other + 1 + 15) old = ap (λ (k : ℕ). take k new) (sym at) ∙ same.before ∙ ap (λ (k : ℕ). take k old) at in
    record { behind = sym (drop-take (other + 1) 15 new) ∙ ap (drop (other + 1)) front ∙ drop-take (other + 1) 15 old ∙ has.behind }

-- ## Blocks

-- All of these rows are written, and the block is empty.
pub written_only : {D : Type 0} (v : DiskView D) (x : Change D) (now : D) (gate : ℕ) (rows : List (List ℕ)) → HasWritten v x now gate rows → Fills v x now gate [] rows
written_only v x now gate rows w = record { first = rows; others = []; rows_are = sym (append-nil rows); short = tt; block_is = refl; written = w }

-- If the block is empty, all rows are written.
pub all_written : {D : Type 0} (v : DiskView D) (x : Change D) (now : D) (gate : ℕ) (rows : List (List ℕ)) → Fills v x now gate [] rows → HasWritten v x now gate rows
all_written v x now gate rows f =
    let same : f.first ≡ rows = sym (append-nil f.first) ∙ ap (λ (l : List (List ℕ)). f.first ++ l) (sym (none_left f.others f.block_is)) ∙ sym f.rows_are in
    subst (HasWritten v x now gate) same f.written

-- One more record in the block.
pub one_more : {D : Type 0} (v : DiskView D) (x : Change D) (now : D) (gate : ℕ) (block payload : List ℕ) (rows : List (List ℕ)) → length payload < 2 ^ 32
    → Fills v x now gate block rows → Fills v x now gate (block ++ record_of payload) (rows ++ payload ∷ [])
one_more v x now gate block payload rows short f = record {
  first = f.first;
  others = f.others ++ payload ∷ [];
  rows_are = ap (λ (l : List (List ℕ)). l ++ payload ∷ []) f.rows_are ∙ append_assoc f.first f.others (payload ∷ []);
  short = short-push f.others payload f.short short;
  block_is =
      ap (λ (l : List ℕ). l ++ record_of payload) f.block_is ∙ ap (λ (l : List ℕ). records f.others ++ l) (sym (append-nil (record_of payload)))
      ∙ sym (records-append f.others (payload ∷ []));
  written = f.written;
}

module _ {D : Type 0} (v : DiskView D) (lawful : IsLawful v) (x : Change D) where
  abbrev Old : List ℕ → Type 0
  Old = HasVersionAndPayloads x.base x.version x.payloads

  long_of : (d : D) (r : List ℕ) → v.bytes d ≡ Some r → length r ≡ v.size d
  long_of d r tells = lawful.image_size d r (lawful.reads_image d r tells)

  -- Until the header is opened the old payloads remain.
  pub still_old : (closed now : D) → CanChange v x → LeavesOnly v x.start closed (IsClosing v x.start x.other) → Tells (SameOutside x.other 1) (v.bytes x.start) (v.bytes closed)
      → ((r : List ℕ) → v.bytes closed ≡ Some r → get_or r x.other 0 ≢ 165) → IsSynced v closed → ChangesOnly v closed now (x.other + 1) (x.len - 1) → LeavesOnly v x.start now Old
  still_old closed now can run stays shut synced fill =
      part_two v lawful x.start x.len x.base x.other x.epoch x.version x.payloads can.stands can.is_half can.least closed run stays shut synced now fill.images

  written_now : (now : D) (gate : ℕ) (rows : List (List ℕ)) → HasWritten v x now gate rows → LeavesOnly v x.start now Old
  written_now now gate rows w = still_old w.closed now w.can w.run w.stays w.shut w.synced w.fill

  pub fills_now : (now : D) (gate : ℕ) (block : List ℕ) (rows : List (List ℕ)) → Fills v x now gate block rows → LeavesOnly v x.start now Old
  fills_now now gate block rows f = written_now now gate f.first f.written

  pub fills_old : (now new : D) (gate at n : ℕ) (block : List ℕ) (rows : List (List ℕ)) → Fills v x now gate block rows → x.other + 1 ≤ at → at + n ≤ x.other + x.len → ChangesOnly v now new at n → LeavesOnly v x.start new Old
  fills_old now new gate at n block rows f low high change =
      let w = f.written in
      still_old w.closed new w.can w.run w.stays w.shut w.synced
      (part_then v w.closed now new (x.other + 1) (x.len - 1) at n lawful low (omega (arith, high, w.can.least)) w.fill change)

  pub is_begun : (closed headed new : D) → CanChange v x → x.other + 17 ≤ v.size closed → LeavesOnly v x.start closed (IsClosing v x.start x.other) → Tells (SameOutside x.other 1) (v.bytes x.start) (v.bytes closed)
      → ((r : List ℕ) → v.bytes closed ≡ Some r → get_or r x.other 0 ≢ 165) → IsSynced v closed
      → IsWritten v closed headed (x.other + 1) (header_behind_gate x.new_epoch) → ChangesOnly v closed headed (x.other + 1) 15
      → IsWritten v headed new (x.other + 16) (0 ∷ []) → ChangesOnly v headed new (x.other + 16) 1 → Fills v x new (x.other + header_len) [] []
  is_begun closed headed new can room run stays shut synced header header_only gate gate_only =
      let headed_tells = tells_still _ _ _ header_only.bytes (tells_still _ _ _ stays can.stands.tells) in
      let mid = told (v.bytes headed) headed_tells in
      let there : v.bytes new ≡ Some (overwritten (x.other + 16) (0 ∷ []) mid.0) = gate ∙ ap (option_map (overwritten (x.other + 16) (0 ∷ []))) mid.1 in
      written_only v x new (x.other + header_len) []
      (record {
        can = can;
        closed = closed;
        run = run;
        stays = stays;
        shut = shut;
        synced = synced;
        fill = part_then v closed headed new (x.other + 1) (x.len - 1) _ _ lawful (omega arith) (omega (arith, can.least))
            (wider_change v closed headed _ _ _ _ (omega arith) (omega (arith, can.least)) header_only) gate_only;
        header = header_kept x.other x.new_epoch 1 (v.bytes closed) (v.bytes headed) (v.bytes new)
            (λ o tells. omega (arith, room, long_of closed o tells)) header gate_only.bytes;
        entries = record {
          tells = tells_still _ _ _ gate_only.bytes headed_tells;
          each = λ r tells. subst (HasEntries (x.other + 16) []) (cc (there, tells)) (begun (x.other + 16) mid.0 (omega (arith, room, long_of headed mid.0 mid.1, header_only.size)));
          gate_at = omega arith;
        };
      })

  -- The rows whose records are in the block are written.
  pub block_written : (now new : D) (gate : ℕ) (block : List ℕ) (rows : List (List ℕ)) → Fills v x now gate block rows
      → gate + length block + 1 ≤ v.size now → gate + length block + 1 ≤ x.other + x.len
      → IsWritten v now new gate (block ++ 0 ∷ []) → ChangesOnly v now new gate (length block + 1) → Fills v x new (gate + length block) [] rows
  block_written now new gate block rows f room within written change =
      let w = f.written in
      let n = length block + 1 in
      let long : length block ≡ length (records f.others) = ap length f.block_is in
      let mid = told (v.bytes now) w.entries.tells in
      let there : v.bytes new ≡ Some (overwritten gate (block ++ 0 ∷ []) mid.0) = written ∙ ap (option_map (overwritten gate (block ++ 0 ∷ []))) mid.1 in
      let behind : x.other + 16 ≤ gate = omega (arith, w.entries.gate_at) in
      written_only v x new (gate + length block) rows
      (record {
        can = w.can;
        closed = w.closed;
        run = w.run;
        stays = w.stays;
        shut = w.shut;
        synced = w.synced;
        fill = part_then v w.closed now new (x.other + 1) (x.len - 1) _ _ lawful (omega (arith, behind)) (omega (arith, within, w.can.least)) w.fill change;
        header = λ r tells.
            header_before x.other x.new_epoch (gate + n) mid.0 r
            (wider gate n (x.other + 16) (gate + n) mid.0 r behind (omega arith) (told_same gate n mid.0 r (v.bytes now) (v.bytes new) mid.1 change.bytes tells))
            (w.header mid.0 mid.1);
        entries = record {
          tells = tells_still _ _ _ change.bytes w.entries.tells;
          each = λ r tells. subst (HasEntries (x.other + 16) rows) (cc (there, tells))
              (subst (λ (l : List ℕ). HasEntries (x.other + 16) rows (overwritten gate (l ++ 0 ∷ []) mid.0)) (sym f.block_is)
              (subst (λ (l : List (List ℕ)). HasEntries (x.other + 16) l (overwritten gate (records f.others ++ 0 ∷ []) mid.0)) (sym f.rows_are)
              (rows_added (x.other + 16) gate f.first f.others mid.0 f.short w.entries.gate_at (omega (arith, room, long, long_of now mid.0 mid.1)) (w.entries.each mid.0 mid.1))));
          gate_at = omega (arith, w.entries.gate_at, long, ap (λ (l : List (List ℕ)). length (records l)) f.rows_are, length-records f.first f.others);
        };
      })

  -- Reads change nothing.
  written_still : (now new : D) (gate : ℕ) (rows : List (List ℕ)) → ChangesNothing v now new → HasWritten v x now gate rows → HasWritten v x new gate rows
  written_still now new gate rows still w = record {
    can = w.can;
    closed = w.closed;
    run = w.run;
    stays = w.stays;
    shut = w.shut;
    synced = w.synced;
    fill = then_still v w.closed now new (x.other + 1) (x.len - 1) lawful w.fill still;
    header = λ r tells. w.header r (sym still.bytes ∙ tells);
    entries = record {
      tells = subst (λ o. IsSome o) (sym still.bytes) w.entries.tells;
      each = λ r tells. w.entries.each r (sym still.bytes ∙ tells);
      gate_at = w.entries.gate_at;
    };
  }

  pub fills_still : (now new : D) (gate : ℕ) (block : List ℕ) (rows : List (List ℕ)) → ChangesNothing v now new → Fills v x now gate block rows → Fills v x new gate block rows
  fills_still now new gate block rows still f = record {
    first = f.first;
    others = f.others;
    rows_are = f.rows_are;
    short = f.short;
    block_is = f.block_is;
    written = written_still now new gate f.first still f.written;
  }

  module _ (filled : D) (gate : ℕ) (rows : List (List ℕ)) (w : HasWritten v x filled gate rows) where
    -- A crash before the header is opened.
    pub not_opened : ChangesOver v x.start filled x.base x.version x.payloads x.other rows
    not_opened =
        ends_old v lawful x.start x.len x.base x.other x.epoch x.version x.payloads w.can.stands w.can.is_half w.can.least rows filled
        (written_now filled gate rows w)

    module _ (synced : IsSynced v filled) (within : gate < x.other + x.len) (new : D) (change : ChangesOnly v filled new x.other 1) where
      kept : KeepsEntries v filled (x.other + header_len) gate rows
      kept =
          let mid = told (v.bytes filled) w.entries.tells in
          record {
            tells = w.entries.tells;
            each = λ c now. subst (HasEntries (x.other + 16) rows) (sym (synced mid.0 mid.1 c now)) (w.entries.each mid.0 mid.1);
            gate_at = w.entries.gate_at;
          }

      pub is_opened : ChangesOver v x.start new x.base x.version x.payloads x.other rows
      is_opened =
          part_three v lawful x.start x.len x.base x.other x.epoch x.version x.payloads w.can.stands w.can.is_half w.can.least w.closed w.run w.stays w.shut w.synced
          filled w.fill.images w.fill.bytes synced rows x.new_epoch gate w.can.newer w.can.fits w.header (λ is. kept) within new change.images

      pub stands_new : IsWritten v filled new x.other (165 ∷ []) → IsSynced v new → StandsNew v new x.other x.new_epoch gate rows
      stands_new written new_synced =
          changed v lawful x.start x.len x.base x.other x.epoch x.version x.payloads w.can.stands w.can.is_half w.can.least w.closed w.run w.stays w.shut w.synced
          filled w.fill.images w.fill.bytes synced rows x.new_epoch gate w.can.newer w.can.fits w.header (λ is. kept) within new change.bytes written new_synced

-- A run that never opens the header.
pub old_only : {D : Type 0} (v : DiskView D) → IsLawful v → (old new : D) (base other version : ℕ) (payloads rows : List (List ℕ)) → LeavesOnly v old new (HasVersionAndPayloads base version payloads) → ChangesOver v old new base version payloads other rows
old_only v lawful old new base other version payloads rows run =
    (new, run, started v new (HasOldOrNew base version payloads other rows) (λ c left. inl (at_return v lawful old new (HasVersionAndPayloads base version payloads) run c (lawful.only_now new c left))))
