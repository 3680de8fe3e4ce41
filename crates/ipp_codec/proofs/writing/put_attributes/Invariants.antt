use Rattle.std.proofs.Common.{take}
use Rattle.ipp_codec.specs.MessageSpelling.{attribute_spelling, IsAttribute}
use Rattle.ipp_codec.proofs.Added.{AreAdded}
use Rattle.ipp_codec.proofs.writing.put_attributes.Given as goal

abbrev pub invariant-loop-attribute : goal.invariant-loop-attribute
invariant-loop-attribute l = AreAdded attribute_spelling IsAttribute l.fn.out.items l.out.items (take l.attribute-index l.attributes)
