use Rattle.ipp_codec.specs.MessageSpelling.{group_spelling, IsGroup}
use Rattle.ipp_codec.proofs.Added.{next_added}
use Rattle.ipp_codec.proofs.writing.put_groups.Goals as goal

pub loop-group-preserved : goal.loop-group-preserved
loop-group-preserved c = next_added group_spelling IsGroup c.args.out.now.items c.loop-group.out.items c.put_group.new.out.items c.args.groups.now c.loop-group.group-index c.group-item.result c.group-item.is c.loop-group-test.true c.loop-group.invariant c.in_ok-put_group.ensures.written c.in_ok-put_group.ensures.legal
