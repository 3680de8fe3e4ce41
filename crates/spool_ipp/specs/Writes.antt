-- The result of a write to a connection.
use Rattle.std.specs.Prelude.{ℕ, Bool, true, false, Result, Ok, Err}
use Rattle.std.specs.IoError.{error_kind}
use Rattle.std.specs.declared.io.Error.{Error}
use Rattle.std.specs.declared.io.ErrorKind.{ErrorKind}
use Rattle.std.specs.declared.io.ErrorKind.TheVariants.{WouldBlock}

abbrev pub would_wait : ErrorKind → Bool
would_wait WouldBlock = true
would_wait kind = false

-- The connection could take nothing now. It can once its peer has read.
abbrev pub takes_later : Result ℕ Error → Bool
takes_later (Ok count) = false
takes_later (Err error) = would_wait (error_kind error)
