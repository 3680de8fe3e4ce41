-- Bytes of a disk that were read together.
use Rattle.std.specs.Prelude.{ℕ, List}
use Rattle.spool_disk.specs.Disk.{DiskView, Reads}

-- Some bytes, and the offset of the first.
pub record Stretch : Type 0 where
  pub start : ℕ
  pub bytes : List ℕ

-- The number of bytes that are read at a time.
abbrev pub block_len : ℕ
block_len = 65536

-- If the disk reports its bytes, these are the bytes from their start on.
abbrev pub Holds : {D : Type 0} → DiskView D → D → Stretch → Type 0
Holds v disk stretch = Reads (v.bytes disk) stretch.start stretch.bytes
