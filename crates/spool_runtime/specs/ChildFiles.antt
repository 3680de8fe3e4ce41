-- The files of an order's child, and the bytes that are read from a file.
use Rattle.std.specs.Prelude.{ℕ, ◌<◌, ◌≤◌, Bool, true, false, List, ◌++◌, codes, length, Option}
use Rattle.std.specs.Fmt.{decimal}
use Rattle.std.specs.declared.io.ErrorKind.{ErrorKind}
use Rattle.std.specs.declared.io.ErrorKind.TheVariants.{QuotaExceeded, StorageFull}
use Rattle.std.specs.Io.KnownBytes.{Consumes, IsAtEnd}
use Rattle.filter_args.specs.Files.{file_name}
use Rattle.filter_args.specs.declared.files.ChildFile.{ChildFile}
use Rattle.child_pipeline.specs.declared.order.Order.{Order}
use Rattle.spool_runtime.specs.ChildUsers.{run_folder}

-- The path of a file in the folder `root`.
abbrev pub file_of : ChildFile → List ℕ → Order → List ℕ
file_of file root order = file_name file root order.job order.attempt order.stage

-- The child's own folder.
abbrev pub folder_of : List ℕ → Order → List ℕ
folder_of root order =
    root ++ (codes "/" ++ (run_folder ++ (codes "/" ++ (decimal order.job ++ (codes "-" ++ (decimal order.attempt ++ (codes "-" ++ decimal order.stage)))))))

-- These bytes were read and no others: all that there are, or the greatest allowed number.
pub record ReadsUpTo (most : ℕ) (old new : Option (List ℕ)) (bytes : List ℕ) : Type 0 where
  pub few : length bytes ≤ most
  pub read : Consumes old new bytes
  pub all : length bytes < most → IsAtEnd new

-- A write failed because the disk or the quota is full.
abbrev pub wants_room : ErrorKind → Bool
wants_room StorageFull = true
wants_room QuotaExceeded = true
wants_room _ = false
