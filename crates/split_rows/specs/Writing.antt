-- Rows that are being written to the other area of a disk.
use Rattle.std.specs.Prelude.{◌≡◌, ℕ, ◌+◌, ◌^◌, ◌<◌, ◌≤◌, length, false, vec_len, vec_capacity}
use Rattle.spool_areas.specs.AreaFilling.{block_len}
use Rattle.spool_areas.specs.Header.{header_len}
use Rattle.spool_areas.specs.Checkpoint.{area_len, last_epoch, other_base}
use Rattle.spool_areas.specs.Current.{Current}
use Rattle.listing_rows.specs.RowFilling.{block_room}
use Rattle.listing_rows.specs.declared.filler.Filler.{Filler}

-- The next rows follow the header of the other area, which ends at `end` or later, there is a next epoch, and the block has room
-- for one more row.
pub record MayWrite {D : Type 0} (areas : Current D) (filler : Filler) (end : ℕ) : Type 0 where
  pub alive : areas.dead ≡ false
  pub behind : other_base areas + header_len ≤ filler.gate
  pub inside : end ≤ other_base areas + area_len areas
  pub more : areas.epoch < last_epoch
  pub few : length filler.block.items < block_len
  pub spare : block_room ≤ vec_capacity filler.block

-- The record that begins at `start` of the block may be ended.
pub record MayEnd {D : Type 0} (areas : Current D) (filler : Filler) (end start : ℕ) : Type 0 where
  pub alive : areas.dead ≡ false
  pub behind : other_base areas + header_len ≤ filler.gate
  pub inside : end ≤ other_base areas + area_len areas
  pub more : areas.epoch < last_epoch
  pub whole : start + 5 ≤ length filler.block.items
  pub short : length filler.block.items < 2 ^ 32
  pub room : vec_len filler.block + 1 ≤ vec_capacity filler.block
  pub spare : block_room ≤ vec_capacity filler.block
