-- The values so far.
use Rattle.std.proofs.Common.{◌≡◌, map, take}
use Rattle.serde_json.specs.View.{view}
use Rattle.front_texts.specs.Json.{queue_data}
use Rattle.front_texts.proofs.json.queues_json.Given as goal

abbrev pub invariant-loop-queue : goal.invariant-loop-queue
invariant-loop-queue l = map view l.array.items ≡ map queue_data (take l.queue-index l.queues)
