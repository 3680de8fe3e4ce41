-- The reasons of the causes of a disk, in a folder.
use Rattle.std.specs.Prelude.{ℕ, ◌++◌, Bool, true, false, List, codes}
use Rattle.std.specs.declared.io.ErrorKind.{ErrorKind}
use Rattle.std.specs.declared.io.ErrorKind.TheVariants.{NotFound}
use Rattle.spool_runtime.specs.declared.fault.DiskCause.{DiskCause}
use Rattle.spool_runtime.specs.declared.fault.DiskCause.TheVariants.{Absent, Failed, NoFile, NoRoom, NotAllowed, Owned, OwnerUnknown, ReadOnly}

-- Whether opening the names of the folder again, or locking its files again, may show the cause.
abbrev pub is_told_again : DiskCause → Bool
is_told_again Absent = true
is_told_again NotAllowed = true
is_told_again ReadOnly = true
is_told_again NoFile = true
is_told_again Failed = true
is_told_again cause = false

-- Whether an error of opening a file belongs to a cause.
abbrev pub is_cause : ErrorKind → DiskCause → Bool
is_cause NotFound Absent = true
is_cause NotFound cause = false
is_cause kind Absent = false
is_cause kind cause = true

-- The reason if all names can be opened.
abbrev pub usual_reason : List ℕ → DiskCause → List ℕ
usual_reason dir Owned = codes "another program has the spool in " ++ (dir ++ codes " open (is cegmandi running? systemctl status cegmandi)")
usual_reason dir OwnerUnknown = codes "the file system of " ++ (dir ++ codes " grants its locks to every program (use another file system, or enable its locks)")
usual_reason dir Absent = codes "cannot open " ++ (dir ++ codes ": No such file or directory")
usual_reason dir NotAllowed = codes "cannot make a file in " ++ (dir ++ codes ": Permission denied")
usual_reason dir ReadOnly = codes "cannot make a file in " ++ (dir ++ codes ": Read-only file system")
usual_reason dir NoRoom = codes "cannot make a file in " ++ (dir ++ codes ": No space left on device")
usual_reason dir NoFile = dir ++ codes "/spool.disk is not a regular file, or has a second name"
usual_reason dir Failed = codes "the device of " ++ (dir ++ codes " failed, or its file system has no locks (see the system's log)")
