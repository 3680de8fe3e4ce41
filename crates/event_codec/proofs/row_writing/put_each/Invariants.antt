use Rattle.std.proofs.Common.{take}
use Rattle.event_codec.specs.Spelling.{attribute_code, IsAttribute}
use Rattle.event_codec.proofs.Added.{AreAdded}
use Rattle.event_codec.proofs.row_writing.put_each.Given as goal

abbrev pub invariant-loop-attribute : goal.invariant-loop-attribute
invariant-loop-attribute l = AreAdded attribute_code IsAttribute l.fn.out l.out (take l.attribute-index l.attributes)
