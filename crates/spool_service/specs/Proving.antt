-- Why there is no folder of proofs.
use Rattle.std.specs.declared.io.ErrorKind.{ErrorKind}
use Rattle.std.specs.declared.io.ErrorKind.TheVariants.{OutOfMemory}
use Rattle.spool_types.specs.declared.text.TextFault.{TextFault}
use Rattle.spool_types.specs.declared.text.TextFault.TheVariants as text
use Rattle.spool_service.specs.declared.proving.FolderFault.{FolderFault}
use Rattle.spool_service.specs.declared.proving.FolderFault.TheVariants.{Memory, Unusable}

-- A call on the folder failed with this kind of error.
abbrev pub folder_fault_of : ErrorKind → FolderFault
folder_fault_of OutOfMemory = Memory
folder_fault_of kind = Unusable

-- The path is too long or contains a control character.
abbrev pub fault_of_path : TextFault → FolderFault
fault_of_path text.Bad = Unusable
fault_of_path text.Memory = Memory
