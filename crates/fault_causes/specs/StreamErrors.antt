-- The errors of streams.
use Rattle.std.specs.Prelude.{Bool, true, false, cond, Option, Some, Result, Ok, Err}
use Rattle.std.specs.IoError.{error_kind}
use Rattle.std.specs.declared.io.Error.{Error}
use Rattle.std.specs.declared.io.ErrorKind.{ErrorKind}
use Rattle.std.specs.declared.io.ErrorKind.TheVariants.{Interrupted}

-- A call that was interrupted is made again.
abbrev pub is_interruption : ErrorKind → Bool
is_interruption Interrupted = true
is_interruption kind = false

-- The last error after a call with this outcome.
abbrev pub noted : {A : Type 0} → Option Error → Result A Error → Option Error
noted last (Ok value) = last
noted last (Err error) = cond (is_interruption (error_kind error)) last (Some error)
