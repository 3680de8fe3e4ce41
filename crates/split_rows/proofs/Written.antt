-- A row that is added to the other area.
use Rattle.std.proofs.Common.{◌≡◌, ℕ, ◌+◌, ◌-◌, ◌≤◌, List, [], ◌∷◌, Ok, Err, Result, take, drop, ◌∙◌, subst, arith}
use Rattle.std.specs.Prelude.{OnOk, vec_capacity}
use Rattle.std.specs.declared.alloc.Global.{Global}
use Rattle.std.specs.declared.vec.Vec.{Vec}
use Rattle.spool_types.specs.declared.listing.Row.{Row}
use Rattle.spool_types.specs.declared.version.Version.TheVariants.{Two}
use Rattle.spool_disk.specs.Disk.{DiskView}
use Rattle.spool_areas.specs.Checkpoint.{area_len, other_base, other_of}
use Rattle.spool_areas.specs.Current.{Current, KeepsPayloads}
use Rattle.spool_areas.specs.Header.{newest_version}
use Rattle.spool_areas.specs.Payloads.{HasVersionAndPayloads}
use Rattle.event_codec.specs.RowSpelling.{row_spelling, IsRowSpellable}
use Rattle.listing_rows.specs.declared.filler.Filler.{Filler}
use Rattle.listing_rows.specs.RowFilling.{filling, filling_at, Filling, IsPut, IsFillingOn, AddsRows}
use Rattle.listing_rows.proofs.RowLaws.{put_adds, put_back, put_long, put_vec}
use Rattle.split_rows.specs.Writing.{MayWrite, MayEnd}

-- After a put the record may be ended.
pub may_end : {D : Type 0} (areas : Current D) (old new : Filler) (end start : ℕ) (row : Row) → MayWrite areas old end → IsPut row old.block new.block start → new.gate ≡ old.gate → MayEnd areas new end start
may_end areas old new end start row may is same = record {
  alive = may.alive;
  behind = omega (arith, may.behind, same);
  inside = may.inside;
  more = may.more;
  whole = omega (arith, put_long row old.block new.block start is, is.at);
  short = omega (arith, put_long row old.block new.block start is, may.few, is.short);
  room = omega (arith, put_vec row old.block new.block start is, may.few, is.short, is.spare, may.spare);
  spare = omega (arith, may.spare, is.spare);
}

module _ {D : Type 0} (v : DiskView D) (a b : Current D) (f g : Filler) (end start : ℕ) (may : MayEnd a f end start)
    (on : IsFillingOn {T = Unit {0}} v (filling a f.gate (take start f.block.items)) (filling_at b g) (Ok tt)) (spare : vec_capacity f.block ≤ vec_capacity g.block) where
  other_on : other_base b ≡ other_base a
  other_on = λ i. other_of (on.end i - on.base i) (on.base i)

  len_on : area_len b ≡ area_len a
  len_on = λ i. on.end i - on.base i

  -- More rows may be written.
  pub may_write : MayWrite b g end
  may_write = record {
    alive = on.alive;
    behind = omega (arith, may.behind, on.behind, other_on);
    inside = omega (arith, may.inside, other_on, len_on);
    more = omega (arith, may.more, on.epoch);
    few = on.few;
    spare = omega (arith, may.spare, spare);
  }

pub on_ok : {T E : Type 0} {P Q : Type 0} (r : Result T E) → OnOk r P → (P → Q) → OnOk r Q
on_ok (Ok x) is more = more is
on_ok (Err e) is more = tt

-- The row that was put into the block is added.
pub row_added : {D T E : Type 0} (v : DiskView D) (areas : Current D) (gate : ℕ) (row : Row) (old new : Vec ℕ Global) (start : ℕ) (P : Type 0) (g : Filling D) (r : Result T E) → IsPut row old new start → (P → IsRowSpellable Two row)
    → OnOk r ((row : Row) → drop (start + 5) new.items ≡ row_spelling Two row → IsRowSpellable Two row → AddsRows v (row ∷ []) (filling areas gate (take start new.items)) g)
    → OnOk r (P → AddsRows v (row ∷ []) (filling areas gate old.items) g)
row_added v areas gate row old new start P g r is spellable added =
    on_ok r added (λ adds legal. put_adds v areas gate row old new start is g (adds row (put_back row old new start is) (spellable legal)))

-- Each image has the payloads, in the newest version.
pub in_images : {D : Type 0} (v : DiskView D) (areas : Current D) (base : ℕ) (rows : List (List ℕ)) → KeepsPayloads v areas rows → areas.base ≡ base → areas.version ≡ newest_version → (c : List ℕ) → v.image areas.disk c → HasVersionAndPayloads base newest_version rows c
in_images v areas base rows keeps at newest c left =
    subst (λ (n : ℕ). HasVersionAndPayloads n newest_version rows c) at (record { area = keeps.each c left; version_is = keeps.version c left ∙ newest })
