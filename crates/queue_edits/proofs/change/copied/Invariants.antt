-- The attributes so far are copied.
use Rattle.std.proofs.Common.{◌≡◌, take}
use Rattle.queue_edits.proofs.change.copied.Given as goal

abbrev pub invariant-loop-attribute : goal.invariant-loop-attribute
invariant-loop-attribute l = l.copies.items ≡ take l.attribute-index (l.attributes)
