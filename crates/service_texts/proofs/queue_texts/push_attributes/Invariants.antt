-- The lines of the attributes so far were appended.
use Rattle.std.proofs.Common.{◌≡◌, ◌++◌, take}
use Rattle.service_texts.specs.QueueShown.{attribute_lines}
use Rattle.service_texts.proofs.queue_texts.push_attributes.Given as goal

abbrev pub invariant-loop-attribute : goal.invariant-loop-attribute
invariant-loop-attribute l = l.text.items ≡ l.initial.text.items ++ attribute_lines (take l.attribute-index l.attributes)
