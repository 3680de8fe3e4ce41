use Rattle.std.proofs.Common.{◌≡◌, ◌≤◌, ◌*◌, length, take}
use Rattle.std.specs.List.{flat_map}
use Rattle.event_codec.specs.Spelling.{attribute_code}
use Rattle.event_codec.proofs.row_writing.attributes_len.Given as goal

abbrev pub invariant-loop-attribute : goal.invariant-loop-attribute
invariant-loop-attribute l = (l.len ≡ length (flat_map attribute_code (take l.attribute-index l.attributes))) × (l.len ≤ l.attribute-index * 4100)
