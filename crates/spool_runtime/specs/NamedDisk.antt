-- The spool's file as a disk.
use Rattle.std.specs.Prelude.{ℕ, None}
use Rattle.spool_disk.specs.Disk.{DiskView}
use Rattle.spool_runtime.specs.declared.named_disk.NamedDisk.{NamedDisk}

-- Its length in bytes when it was opened.
abbrev pub named_len : NamedDisk → ℕ
named_len d = d.len

-- The number of failures that it has counted.
abbrev pub named_faults : NamedDisk → ℕ
named_faults d = d.faults

-- The disk shows its length and its failures, and nothing of its bytes.
abbrev pub seen_of_named : DiskView NamedDisk
seen_of_named = record {
  bytes = λ d. None;
  size = λ d. named_len d;
  image = λ d c. ⊥;
  moment = λ d. 0;
  image_since = λ d t c. ⊥;
  failures = λ d. named_faults d;
}
