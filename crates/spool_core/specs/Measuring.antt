-- The total length of the records of a listing, in bytes.
use Rattle.std.specs.Prelude.{◌≡◌, ℕ, ◌+◌, List, length, map, min}
use Rattle.spool_types.specs.declared.listing.Row.{Row}
use Rattle.spool_types.specs.declared.version.Version.TheVariants.{Two}
use Rattle.gate_journal.specs.Entries.{records}
use Rattle.event_codec.specs.RowSpelling.{row_spelling}

-- The second sum is the first one plus the records of these rows, or the greatest `u64` if that is less.
abbrev pub IsSumMore : List Row → ℕ → ℕ → Type 0
IsSumMore rows before sum = sum ≡ min (before + length (records (map (row_spelling Two) rows))) 18446744073709551615
