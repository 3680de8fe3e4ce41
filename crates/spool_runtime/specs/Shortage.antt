-- The shortages that make a start fail.
use Rattle.std.specs.Prelude.{ℕ, ℤ, pos, Bool, ◌||◌, cond, List, Option, None, Some}
use Rattle.std.specs.Ordering.{int_eq, is_le, nat_cmp}
use Rattle.std.specs.Cmp.Lexicographic.{slice_cmp}
use Rattle.std.specs.declared.io.ErrorKind.{ErrorKind}
use Rattle.std.specs.declared.io.ErrorKind.TheVariants.{QuotaExceeded, StorageFull, WouldBlock}
use Rattle.spool_runtime.specs.declared.shortage.Shortage.{Shortage}
use Rattle.spool_runtime.specs.declared.shortage.Shortage.TheVariants.{Descriptors, Processes, Room}

-- The system's numbers of the errors for too many open files, of the process and of the system.
abbrev pub short_number : Option ℤ → Option Shortage
short_number None = None
short_number (Some number) = cond (int_eq number (pos 24) || int_eq number (pos 23)) (Some Descriptors) None

-- The kind of the error decides, or else its number.
abbrev pub shortage_of : ErrorKind → Option ℤ → Option Shortage
shortage_of StorageFull number = Some Room
shortage_of QuotaExceeded number = Some Room
shortage_of WouldBlock number = Some Processes
shortage_of _ number = short_number number

-- The queues of a round are in ascending order.
abbrev pub begins_round : List ℕ → List ℕ → Bool
begins_round last queue = is_le (slice_cmp nat_cmp queue last)
