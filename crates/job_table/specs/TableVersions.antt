-- Versions of a table's area.
use Rattle.spool_types.specs.State.{State}
use Rattle.spool_types.specs.declared.version.Version.TheVariants.{Two}

-- The same rows in an area of the newest version, as a checkpoint leaves them.
abbrev pub raised : State → State
raised s = record s { version = Two }
