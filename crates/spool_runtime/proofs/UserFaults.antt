-- The faults of preparing users.
use Rattle.spool_runtime.specs.ProgramFaults.{IsOfFolder, IsOfUsers}
use Rattle.spool_runtime.specs.declared.fault.ShellFault.{ShellFault}
use Rattle.spool_runtime.specs.declared.fault.ShellFault.TheVariants.{Users}

-- A fault of the folder is one of them.
pub of_folder : (fault : ShellFault) → IsOfFolder fault → IsOfUsers fault
of_folder Users held = tt
of_folder fault held = held
