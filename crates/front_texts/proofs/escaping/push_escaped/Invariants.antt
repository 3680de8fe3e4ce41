-- The bytes so far were appended.
use Rattle.std.proofs.Common.{◌≡◌, ◌++◌, take}
use Rattle.std.specs.List.{flat_map}
use Rattle.front_texts.specs.Escape.{entity}
use Rattle.front_texts.proofs.escaping.push_escaped.Given as goal

abbrev pub invariant-loop-byte : goal.invariant-loop-byte
invariant-loop-byte l = l.page.items ≡ l.initial.page.items ++ flat_map entity (take l.byte-index l.byte-items)
