use Rattle.std.proofs.Common.{take}
use Rattle.ipp_codec.specs.MessageSpelling.{group_spelling, IsGroup}
use Rattle.ipp_codec.proofs.Added.{AreAdded}
use Rattle.ipp_codec.proofs.writing.put_groups.Given as goal

abbrev pub invariant-loop-group : goal.invariant-loop-group
invariant-loop-group l = AreAdded group_spelling IsGroup l.fn.out.items l.out.items (take l.group-index l.groups)
