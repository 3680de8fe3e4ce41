-- The lines of the queues so far were appended.
use Rattle.std.proofs.Common.{◌≡◌, ◌++◌, take}
use Rattle.std.specs.List.{flat_map}
use Rattle.service_texts.specs.Notices.{queue_told}
use Rattle.service_texts.proofs.notes.push_queues.Given as goal

abbrev pub invariant-loop-name : goal.invariant-loop-name
invariant-loop-name l = l.text.items ≡ l.initial.text.items ++ flat_map (queue_told l.client l.table.state) (take l.name-index l.names)
