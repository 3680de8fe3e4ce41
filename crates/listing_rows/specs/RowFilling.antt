-- Filling the other area with rows.
use Rattle.std.specs.Prelude.{◌≡◌, ◌<◌, ◌≤◌, ℕ, ◌+◌, ◌-◌, ◌^◌, List, [], ◌∷◌, ◌++◌, length, map, true, false, Result, OnOk, OnErr, vec_capacity}
use Rattle.std.specs.List.{AllByRecursion}
use Rattle.std.specs.declared.alloc.Global.{Global}
use Rattle.std.specs.declared.vec.Vec.{Vec}
use Rattle.spool_types.specs.declared.listing.Row.{Row}
use Rattle.spool_types.specs.declared.version.Version.TheVariants.{Two}
use Rattle.spool_disk.specs.Disk.{DiskView, LeavesOnly, ChangesOnly}
use Rattle.gate_journal.specs.Entries.{records}
use Rattle.spool_areas.specs.Checkpoint.{area_len, other_base}
use Rattle.spool_areas.specs.Current.{Current}
use Rattle.spool_areas.specs.AreaFilling.{Change, Fills, block_len}
use Rattle.spool_areas.specs.Header.{header_len}
use Rattle.spool_areas.specs.Payloads.{HasVersionAndPayloads}
use Rattle.spool_areas.specs.AreaFields.{IsArea}
use Rattle.spool_areas.specs.declared.fault.AreaFault.{AreaFault}
use Rattle.event_codec.specs.RowSpelling.{row_spelling, IsRowSpellable}
use Rattle.listing_rows.specs.declared.filler.Filler.{Filler}

-- ## Rows in a block

-- Size of a block in bytes: those that are written at once, and one more record.
abbrev pub block_room : ℕ
block_room = 589829

-- The free bytes that a record's head is written into.
abbrev pub free_head : List ℕ
free_head = 0 ∷ 0 ∷ 0 ∷ 0 ∷ 0 ∷ []

-- A row was encoded after the contents of the block, with a free head before it, which begins at `start`.
pub record IsPut (row : Row) (old new : Vec ℕ Global) (start : ℕ) : Type 0 where
  pub at : start ≡ length old.items
  pub put : new.items ≡ old.items ++ (free_head ++ row_spelling Two row)
  pub spare : vec_capacity old ≤ vec_capacity new
  pub short : length (row_spelling Two row) < 2 ^ 19

-- ## The state while rows are added

-- The areas, the place of the block's records in the other area, and the block.
pub record Filling (D : Type 0) : Type 0 where
  pub areas : Current D
  pub gate : ℕ
  pub block : List ℕ

abbrev pub filling : {D : Type 0} → Current D → ℕ → List ℕ → Filling D
filling areas gate block = record { areas = areas; gate = gate; block = block }

abbrev pub filling_at : {D : Type 0} → Current D → Filler → Filling D
filling_at areas filler = filling areas filler.gate filler.block.items

-- The place of the next record.
abbrev pub next_place : {D : Type 0} → Filling D → ℕ
next_place f = f.gate + length f.block

abbrev pub records_len : List Row → ℕ
records_len rows = length (records (map (row_spelling Two) rows))

-- The change is between these areas.
pub record IsChangeOf {D : Type 0} (x : Change D) (areas : Current D) : Type 0 where
  pub other : x.other ≡ other_base areas
  pub len : x.len ≡ area_len areas

-- Rows may be added whose records are as long as those of these rows.
pub record MayFill {D : Type 0} (v : DiskView D) (rows : List Row) (f : Filling D) : Type 0 where
  pub alive : f.areas.dead ≡ false
  pub area : IsArea f.areas.base f.areas.end (v.size f.areas.disk)
  pub behind : other_base f.areas + header_len ≤ f.gate
  pub few : length f.block < block_len
  pub room : next_place f + records_len rows + 1 ≤ other_base f.areas + area_len f.areas

-- From the old filling to the new one only the other area has changed, and a crash meanwhile leaves the payloads of the current
-- area. After a fault the areas are dead, and the device has failed.
pub record IsFillingOn {D T : Type 0} (v : DiskView D) (old new : Filling D) (r : Result T AreaFault) : Type 0 where
  pub base : new.areas.base ≡ old.areas.base
  pub end : new.areas.end ≡ old.areas.end
  pub epoch : new.areas.epoch ≡ old.areas.epoch
  pub version : new.areas.version ≡ old.areas.version
  pub gate : new.areas.gate ≡ old.areas.gate
  pub changes : ChangesOnly v old.areas.disk new.areas.disk (other_base old.areas) (area_len old.areas)
  pub leaves : (x : Change D) (rows : List (List ℕ)) → IsChangeOf x old.areas → Fills v x old.areas.disk old.gate old.block rows → LeavesOnly v x.start new.areas.disk (HasVersionAndPayloads x.base x.version x.payloads)
  pub behind : OnOk r (old.gate ≤ new.gate)
  pub few : OnOk r (length new.block < block_len)
  pub alive : OnOk r (new.areas.dead ≡ false)
  pub counted : OnOk r (v.failures new.areas.disk ≡ v.failures old.areas.disk)
  pub dead : OnErr r (new.areas.dead ≡ true)
  pub cause : OnErr r (v.failures old.areas.disk < v.failures new.areas.disk)

-- Meanwhile these rows were added, in order.
pub record AddsRows {D : Type 0} (v : DiskView D) (rows : List Row) (old new : Filling D) : Type 0 where
  pub spellable : AllByRecursion (IsRowSpellable Two) rows
  pub place : next_place new ≡ next_place old + records_len rows
  pub added : (x : Change D) (others : List (List ℕ)) → IsChangeOf x old.areas → Fills v x old.areas.disk old.gate old.block others → Fills v x new.areas.disk new.gate new.block (others ++ map (row_spelling Two) rows)
