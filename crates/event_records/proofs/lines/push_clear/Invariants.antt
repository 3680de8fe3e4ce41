-- The bytes so far were appended.
use Rattle.std.proofs.Common.{◌≡◌, ◌++◌, take}
use Rattle.std.specs.List.{flat_map}
use Rattle.event_records.specs.EventLines.{clear_byte}
use Rattle.event_records.proofs.lines.push_clear.Given as goal

abbrev pub invariant-loop-byte : goal.invariant-loop-byte
invariant-loop-byte l = l.text.items ≡ l.initial.text.items ++ flat_map clear_byte (take l.byte-index l.byte-items)
