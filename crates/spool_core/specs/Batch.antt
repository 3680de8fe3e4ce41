-- A spool with staged events: its table has them, and no image has them yet.
use Rattle.spool_disk.specs.Disk.{DiskView}
use Rattle.std.specs.Prelude.{◌≡◌, ◌⊎◌, ℕ, List, Some}
use Rattle.spool_types.specs.State.{State}
use Rattle.spool_core.specs.Image.{HasTable, HasWhole}

-- The bytes that the disk reports have this table. Without staged events it is the one shown.
abbrev pub IsTableOf : {D : Type 0} → DiskView D → D → State → Type 0
IsTableOf v disk s = (r : List ℕ) × (v.bytes disk ≡ Some r) × HasTable s r

-- The table without the staged events, or the one with all of them.
abbrev pub HasBeforeOrAllEvents : State → State → List ℕ → Type 0
HasBeforeOrAllEvents before all image = HasTable before image ⊎ HasTable all image

-- The same with the documents of each.
abbrev pub HasWholeBeforeOrAll : State → (ℕ → List ℕ) → State → (ℕ → List ℕ) → List ℕ → Type 0
HasWholeBeforeOrAll before documents all sent image = HasWhole before documents image ⊎ HasWhole all sent image
