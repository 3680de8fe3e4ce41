-- Rows in a block, and a step of the areas.
use Rattle.spool_types.specs.declared.version.Version.TheVariants.{Two}
use Rattle.std.proofs.Common.{◌≡◌, ⊎_elim, ℕ, ◌+◌, ◌-◌, ◌<◌, ◌≤◌, ◌^◌, Bool, true, false, List, [], ◌∷◌, ◌++◌, length, take, drop, Ok, Err, Result, refl, sym, subst, ap, ◌∙◌, arith, append_assoc, length-append}
use Rattle.std.specs.Prelude.{◌≢◌, ◌⊎◌, IsErrOf, IsErrAnd, IsTrue, vec_len, vec_capacity}
use Rattle.std.proofs.lemmas.Result.{err_from_is_err_and}
use Rattle.std.proofs.lemmas.List.{take_at, drop_at}
use Rattle.std.specs.declared.alloc.Global.{Global}
use Rattle.std.specs.declared.vec.Vec.{Vec}
use Rattle.spool_types.specs.declared.listing.Row.{Row}
use Rattle.spool_disk.specs.Disk.{DiskView, LeavesOnly, ChangesOnly}
use Rattle.spool_areas.specs.Checkpoint.{area_len, other_base}
use Rattle.spool_areas.specs.Current.{Current}
use Rattle.spool_areas.specs.AreaFilling.{Change, Fills, block_len}
use Rattle.spool_areas.specs.Payloads.{HasVersionAndPayloads}
use Rattle.spool_areas.specs.declared.fault.AreaFault.{AreaFault}
use Rattle.spool_areas.specs.declared.fault.AreaFault.TheVariants as areas
use Rattle.event_codec.specs.RowSpelling.{row_spelling}
use Rattle.listing_rows.specs.RowFilling.{block_room, free_head, IsPut, Filling, filling, MayFill, IsFillingOn, AddsRows}

-- A row's encoding after a free head.
pub is_put : (row : Row) (old mid new : Vec ℕ Global) (start : ℕ) → start ≡ length old.items → mid.items ≡ old.items ++ free_head → new.items ≡ mid.items ++ row_spelling Two row
    → vec_capacity old ≤ vec_capacity new → length (row_spelling Two row) < 2 ^ 19 → IsPut row old new start
is_put row old mid new start at head spelled spare short = record {
  at = at;
  put = spelled ∙ ap (λ (l : List ℕ). l ++ row_spelling Two row) head ∙ append_assoc old.items free_head (row_spelling Two row);
  spare = spare;
  short = short;
}

-- ## The contents of a block after a put

pub own_len : (b : Vec ℕ Global) → vec_len b ≡ length b.items
own_len b = b.ok.0

module _ (row : Row) (old new : Vec ℕ Global) (start : ℕ) (is : IsPut row old new start) where
  pub put_front : take start new.items ≡ old.items
  put_front = ap (take start) is.put ∙ take_at old.items (free_head ++ row_spelling Two row) start (sym is.at)

  pub put_back : drop (start + 5) new.items ≡ row_spelling Two row
  put_back =
      let whole : new.items ≡ (old.items ++ free_head) ++ row_spelling Two row = is.put ∙ sym (append_assoc old.items free_head (row_spelling Two row)) in
      ap (drop (start + 5)) whole ∙ drop_at (old.items ++ free_head) (row_spelling Two row) (start + 5) (omega (arith, is.at, length-append old.items free_head))

  pub put_long : length new.items ≡ length old.items + 5 + length (row_spelling Two row)
  put_long = omega (arith, ap length is.put, length-append old.items (free_head ++ row_spelling Two row), length-append free_head (row_spelling Two row))

  pub put_vec : vec_len new ≡ length old.items + 5 + length (row_spelling Two row)
  put_vec = own_len new ∙ put_long

-- The record in the block may be ended.
module _ {D : Type 0} (v : DiskView D) (areas : Current D) (gate : ℕ) (row : Row) (old new : Vec ℕ Global) (start : ℕ) (may : MayFill v (row ∷ []) (filling areas gate old.items)) (is : IsPut row old new start) (spare : block_room ≤ vec_capacity old) where
  pub end_whole : start + 5 ≤ length new.items
  end_whole = omega (arith, put_long row old new start is, is.at)

  pub end_short : length new.items < 2 ^ 32
  end_short = omega (arith, put_long row old new start is, may.few, is.short)

  pub end_spare : vec_len new + 1 ≤ vec_capacity new
  end_spare = omega (arith, put_vec row old new start is, may.few, is.short, is.spare, spare)

  pub end_room : gate + length new.items + 1 ≤ other_base areas + area_len areas
  end_room = omega (arith, put_long row old new start is, may.room, length-append (row_spelling Two row) [])

module _ {D : Type 0} (v : DiskView D) (areas : Current D) (gate : ℕ) (row : Row) (old new : Vec ℕ Global) (start : ℕ) (is : IsPut row old new start) (g : Filling D) where
  pub put_on : {T : Type 0} (r : Result T AreaFault) → IsFillingOn v (filling areas gate (take start new.items)) g r → IsFillingOn v (filling areas gate old.items) g r
  put_on r on = subst (λ (block : List ℕ). IsFillingOn v (filling areas gate block) g r) (put_front row old new start is) on

  pub put_adds : AddsRows v (row ∷ []) (filling areas gate (take start new.items)) g → AddsRows v (row ∷ []) (filling areas gate old.items) g
  put_adds adds = subst (λ (block : List ℕ). AddsRows v (row ∷ []) (filling areas gate block) g) (put_front row old new start is) adds

-- ## A step of the areas

-- The only fault is the device's.
pub fault_disk : {T : Type 0} (e : AreaFault) (dead : Bool) → ((fault : AreaFault) → fault ≢ areas.Disk → IsErrOf {T = T} (Err e) fault → fault ≡ areas.Dead) → (IsErrOf {T = T} (Err e) areas.Dead → IsTrue dead) → dead ≡ false → IsErrOf {T = T} (Err e) areas.Disk
fault_disk areas.Dead dead refused was alive = absurd (cc (was refl, alive))
fault_disk areas.EpochEnd dead refused was alive = absurd (cc (refused areas.EpochEnd (λ same. cc same) refl))
fault_disk areas.Full dead refused was alive = absurd (cc (refused areas.Full (λ same. cc same) refl))
fault_disk areas.Disk dead refused was alive = refl

pub lives_on : (now before : Bool) (Failed : Type 0) → before ≡ false → (IsTrue now → IsTrue before ⊎ Failed) → ¬ Failed → now ≡ false
lives_on false before Failed alive dies other = refl
lives_on true before Failed alive dies other = ⊎_elim (λ dead. absurd (cc (dead, alive))) (λ failed. absurd (other failed)) (dies refl)

module _ {D : Type 0} (v : DiskView D) (a b : Current D) (gate : ℕ) (block : List ℕ) (same : (b.base ≡ a.base) × (b.end ≡ a.end) × (b.epoch ≡ a.epoch) × (b.gate ≡ a.gate) × (b.version ≡ a.version))
    (changes : ChangesOnly v a.disk b.disk (other_base a) (area_len a))
    (moment : (x : Change D) (rows : List (List ℕ)) → x.other ≡ other_base a → x.len ≡ area_len a → Fills v x a.disk gate block rows → LeavesOnly v x.start b.disk (HasVersionAndPayloads x.base x.version x.payloads)) where
  pub step_on : {T : Type 0} (t : T) (next : ℕ) (left : List ℕ) → gate ≤ next → length left < block_len → b.dead ≡ false → v.failures b.disk ≡ v.failures a.disk → IsFillingOn v (filling a gate block) (filling b next left) (Ok t)
  step_on t next left behind few alive counted = record {
    base = same.0;
    end = same.1;
    epoch = same.2;
    version = same.4;
    gate = same.3;
    changes = changes;
    leaves = λ x rows is fills. moment x rows is.other is.len fills;
    behind = behind;
    few = few;
    alive = alive;
    counted = counted;
    dead = tt;
    cause = tt;
  }

  pub step_failed : {T : Type 0} (e : AreaFault) (next : ℕ) (left : List ℕ) → b.dead ≡ true → v.failures a.disk < v.failures b.disk → IsFillingOn {T = T} v (filling a gate block) (filling b next left) (Err e)
  step_failed e next left dead cause = record {
    base = same.0;
    end = same.1;
    epoch = same.2;
    version = same.4;
    gate = same.3;
    changes = changes;
    leaves = λ x rows is fills. moment x rows is.other is.len fills;
    behind = tt;
    few = tt;
    alive = tt;
    counted = tt;
    dead = dead;
    cause = cause;
  }

-- A fault that is passed on.
pub err_on : {D : Type 0} (v : DiskView D) (f g : Filling D) (e : AreaFault) (Q : AreaFault → Type 0) (r : Result (Unit {0}) AreaFault) → IsErrAnd r Q → IsFillingOn {T = Unit {0}} v f g (Err e) → IsFillingOn v f g r
err_on v f g e Q r is on =
    let p = err_from_is_err_and r is in
    subst (λ (x : Result (Unit {0}) AreaFault). IsFillingOn v f g x) (sym p.1)
    (record { base = on.base; end = on.end; epoch = on.epoch; version = on.version; gate = on.gate; changes = on.changes; leaves = on.leaves; behind = tt; few = tt; alive = tt; counted = tt; dead = on.dead; cause = on.cause })
