use Rattle.ipp_codec.specs.MessageSpelling.{attribute_spelling, IsAttribute}
use Rattle.ipp_codec.proofs.Added.{next_added}
use Rattle.ipp_codec.proofs.writing.put_attributes.Goals as goal

pub loop-attribute-preserved : goal.loop-attribute-preserved
loop-attribute-preserved c = next_added attribute_spelling IsAttribute c.args.out.now.items c.loop-attribute.out.items c.put_attribute.new.out.items c.args.attributes.now c.loop-attribute.attribute-index c.attribute-item.result c.attribute-item.is c.loop-attribute-test.true c.loop-attribute.invariant c.in_ok-put_attribute.ensures.written c.in_ok-put_attribute.ensures.legal
