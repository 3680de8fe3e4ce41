use Rattle.event_codec.specs.Spelling.{attribute_code, IsAttribute}
use Rattle.event_codec.proofs.Added.{has_place, next_added}
use Rattle.event_codec.proofs.row_writing.put_each.Goals as goal

pub put_attribute-requires : goal.put_attribute-requires
put_attribute-requires c = record { room = has_place attribute_code IsAttribute c.args.out.now c.loop-attribute.out c.args.attributes.now c.loop-attribute.attribute-index c.attribute-item.result c.attribute-item.is c.loop-attribute-test.true c.loop-attribute.invariant c.requires.room }

pub loop-attribute-preserved : goal.loop-attribute-preserved
loop-attribute-preserved c = next_added attribute_code IsAttribute c.args.out.now c.loop-attribute.out c.put_attribute.new.out c.args.attributes.now c.loop-attribute.attribute-index c.attribute-item.result c.attribute-item.is c.loop-attribute-test.true c.loop-attribute.invariant c.put_attribute.ensures.written c.put_attribute.ensures.len c.put_attribute.ensures.grown c.put_attribute.ensures.legal
