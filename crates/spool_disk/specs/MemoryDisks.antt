-- A disk in memory.
use Rattle.std.specs.Prelude.{ℕ, List}
use Rattle.spool_disk.specs.declared.memory.MemDisk.{MemDisk}

-- Its bytes, which a crash leaves.
abbrev pub mem_bytes : MemDisk → List ℕ
mem_bytes m = m.bytes.items
