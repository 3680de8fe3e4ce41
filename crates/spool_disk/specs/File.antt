-- A file of the system as a disk.
use Rattle.std.specs.Prelude.{ℕ, None}
use Rattle.spool_disk.specs.Disk.{DiskView}
use Rattle.spool_disk.specs.declared.file.FileDisk.{FileDisk}

-- The file's length when the disk was made.
abbrev pub file_len : FileDisk → ℕ
file_len d = d.len

-- The number of failures that it has counted.
abbrev pub file_faults : FileDisk → ℕ
file_faults d = d.faults

-- The view of the file: its length and its failures, and nothing of its bytes.
abbrev pub seen_of_file : DiskView FileDisk
seen_of_file = record {
  bytes = λ d. None;
  size = λ d. file_len d;
  image = λ d c. ⊥;
  moment = λ d. 0;
  image_since = λ d t c. ⊥;
  failures = λ d. file_faults d;
}
