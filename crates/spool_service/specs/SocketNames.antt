-- Who has the name of a socket.
use Rattle.std.specs.Prelude.{Option, Some}
use Rattle.std.specs.declared.io.ErrorKind.{ErrorKind}
use Rattle.std.specs.declared.io.ErrorKind.TheVariants.{ConnectionRefused}
use Rattle.spool_service.specs.declared.names.Holder.{Holder}
use Rattle.spool_service.specs.declared.names.Holder.TheVariants.{LeftSocket, ServedSocket}

-- By the error of connecting to the socket. Only a refused connection shows that no program serves it: unix(7).
abbrev pub holder_by : Option ErrorKind → Holder
holder_by (Some ConnectionRefused) = LeftSocket
holder_by _ = ServedSocket
