-- The versions of a spool's format.
use Rattle.std.specs.Prelude.{ℕ, ◌&&◌, ◌||◌, ◌==◌, Bool, Option, None, Some, cond, not}
use Rattle.gate_journal.specs.Entries.{open_gate}
use Rattle.spool_areas.specs.Header.{half, is_version}

-- The two areas of a file begin at its first byte and at its half.
abbrev pub is_header : ℕ → ℕ → Bool
is_header place size = (place == 0) || (place == half size)

-- The version of an open header, unless this program reads it.
abbrev pub unknown_version : ℕ → ℕ → Option ℕ
unknown_version gate version = cond ((gate == open_gate) && not (is_version version)) (Some version) None
