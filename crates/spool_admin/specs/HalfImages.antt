-- The images of a disk after a half of a spool was listed on it.
use Rattle.std.specs.Prelude.{◌≡◌, ℕ, Bool, List, Option, Some, IsSome}
use Rattle.spool_types.specs.State.{State}
use Rattle.spool_disk.specs.Disk.{DiskView}
use Rattle.spool_halves.specs.Halves.{HasHalf, KeepsDocuments}

-- Each image has the table of this half, and the documents that the whole spool's bytes have for its jobs.
abbrev pub LeavesHalf : {D : Type 0} → DiskView D → Bool → List (List ℕ) → State → Option (List ℕ) → D → Type 0
LeavesHalf view named names whole bytes disk =
    IsSome (view.bytes disk) → (image : List ℕ) → view.image disk image
    → HasHalf named names whole image × ((r : List ℕ) → bytes ≡ Some r → KeepsDocuments named names whole r image)
