-- The values so far.
use Rattle.std.proofs.Common.{◌≡◌, map, take}
use Rattle.serde_json.specs.View.{view}
use Rattle.front_texts.specs.Json.{text_item}
use Rattle.front_texts.proofs.json.reasons_json.Given as goal

abbrev pub invariant-loop-reason : goal.invariant-loop-reason
invariant-loop-reason l = map view l.array.items ≡ map text_item (take l.reason-index l.reasons)
