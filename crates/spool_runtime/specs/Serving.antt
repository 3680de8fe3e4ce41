-- How a spool is opened and served.
use Rattle.std.specs.Prelude.{◌≡◌, ◌⊎◌, ℕ, ◌/◌, List, Bool, true, false, Option, None, Some, Result, Err, codes}
use Rattle.std.specs.FinMap as finite
use Rattle.std.specs.String.{string_bytes}
use Rattle.child_pipeline.specs.ChildTraces.{ChildTrace}
use Rattle.filter_args.specs.declared.place.Place.{Place}
use Rattle.mime_costs.specs.declared.conversion.Conversion.{Conversion}
use Rattle.mime_rules.specs.TypesValue.{TypesValue}
use Rattle.print_rounds.specs.RunStates.{RunState, run_state}
use Rattle.spool_disk.specs.Disk.{DiskView}
use Rattle.spool_core.specs.Image.{IsFaultOf, IsReopenedFrom}
use Rattle.spool_core.specs.OpenSpools.{OpenSpool}
use Rattle.spool_core.specs.declared.OpenFault.{OpenFault}
use Rattle.spool_engine.specs.EventSteps.{Setting, setting}
use Rattle.spool_engine.specs.Mime.{Mime}
use Rattle.spool_engine.specs.EngineRuns.{Engine, IsRun, CommandStep}
use Rattle.spool_engine.specs.declared.fault.RunFault.{RunFault}
use Rattle.engine_reserve.specs.ReservedRuns.{IsReservedRun}
use Rattle.spool_runtime.specs.ProgramEnding.{ending_of}
use Rattle.spool_runtime.specs.ProgramFaults.{IsOfFolder, of_opening}
use Rattle.spool_runtime.specs.declared.fault.ShellFault.{ShellFault}

-- The place of the children of a spool in the folder `root`.
pub record IsPlace (root : List ℕ) (side : Bool) (place : Place) : Type 0 where
  pub folder : string_bytes place.root ≡ root
  pub locale : string_bytes place.lang ≡ codes "C"
  pub programs : string_bytes place.path ≡ codes "/usr/bin:/bin"
  pub channel : place.side ≡ side

-- How documents are typed there: these rules and conversions, in the locale of the place.
abbrev pub database : TypesValue → List Conversion → Place → Mime
database types convs place = record { types = types; convs = convs; locale = string_bytes place.lang }

-- ---- opening a disk

-- The engine has a spool with the table of the disk's bytes after the policy, and holds no slot. It continues with
-- these rules and in this place, with children that have this trace.
pub record IsOpened {D : Type 0} (device : DiskView D) (mime : Mime) (place : Place) (told : Option ChildTrace) (disk : D) (engine : Engine D) : Type 0 where
  pub spool : OpenSpool D
  pub table : (r : List ℕ) → device.bytes disk ≡ Some r → IsReopenedFrom spool.state r
  pub alive : spool.dead ≡ false
  pub run_state_is : engine.run_state ≡ run_state spool finite.empty told
  pub rules_are : engine.mime ≡ mime
  pub place_is : engine.place ≡ place

-- The same for a disk with unknown bytes.
pub record IsSetUp {D : Type 0} (mime : Mime) (place : Place) (told : Option ChildTrace) (engine : Engine D) : Type 0 where
  pub spool : OpenSpool D
  pub alive : spool.dead ≡ false
  pub run_state_is : engine.run_state ≡ run_state spool finite.empty told
  pub rules_are : engine.mime ≡ mime
  pub place_is : engine.place ≡ place

-- The faults that prevent the opening: of the folder, its file, or the file's contents.
abbrev pub IsOfOpening : ShellFault → Type 0
IsOfOpening told = IsOfFolder told ⊎ ((fault : OpenFault) × (told ≡ of_opening fault))

-- The disk was not opened. If the fault is one of bytes, the disk's bytes have it.
pub record IsUnread {D : Type 0} (device : DiskView D) (disk : D) (told : ShellFault) : Type 0 where
  pub fault : OpenFault
  pub cause : (r : List ℕ) → device.bytes disk ≡ Some r → IsFaultOf r fault
  pub tells : told ≡ of_opening fault

-- ---- serving the disk

-- The size of an area of a disk of this size, if the run keeps the reserve.
abbrev pub reserved_area : Bool → ℕ → Option ℕ
reserved_area true size = Some (size / 2)
reserved_area false size = None

-- A run of the engine, or one that keeps the reserve of areas of this size.
abbrev pub IsRunWith : {D : Type 0} → Setting D → Option ℕ → Option (List ℕ) → RunState D → List ℕ → List (CommandStep D) → RunState D → Result (Unit {0}) RunFault → Option (List ℕ) → Option (List ℕ) → Type 0
IsRunWith v None known s text turns s' ran old new = IsRun v known s text turns s' ran old new
IsRunWith v (Some area) known s text turns s' ran old new = IsReservedRun v area known s text turns s' ran old new

-- A run over the opened disk ended with this result.
pub record HasRun {D : Type 0} (device : DiskView D) (mime : Mime) (place : Place) (told : Option ChildTrace) (reserve : Bool) (disk : D) (known : Option (List ℕ)) (result : Result (Unit {0}) ShellFault) (old new : Option (List ℕ)) : Type 0 where
  pub engine : Engine D
  pub after : RunState D
  pub text : List ℕ
  pub turns : List (CommandStep D)
  pub ran : Result (Unit {0}) RunFault
  pub opened : IsOpened device mime place told disk engine
  pub run : IsRunWith (setting device mime place) (reserved_area reserve (device.size disk)) known engine.run_state text turns after ran old new
  pub ends : result ≡ ending_of ran after.spool.dead

-- The disk was not opened, and nothing was read or written.
pub record IsUnopened {D : Type 0} (device : DiskView D) (disk : D) (known left : Option (List ℕ)) (result : Result (Unit {0}) ShellFault) (old new : Option (List ℕ)) : Type 0 where
  pub fault : ShellFault
  pub cause : IsUnread device disk fault
  pub ends : result ≡ Err fault
  pub unread : left ≡ known
  pub unwritten : new ≡ old
