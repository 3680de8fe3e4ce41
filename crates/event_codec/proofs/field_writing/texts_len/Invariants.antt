use Rattle.std.proofs.Common.{◌≡◌, ◌≤◌, ◌*◌, length, take}
use Rattle.std.specs.List.{flat_map}
use Rattle.event_codec.specs.Spelling.{text_code}
use Rattle.event_codec.proofs.field_writing.texts_len.Given as goal

abbrev pub invariant-loop-text : goal.invariant-loop-text
invariant-loop-text g l = (l.len ≡ length (flat_map text_code (take l.text-index l.texts))) × (l.len ≤ l.text-index * 2050)
