use Rattle.std.proofs.Common.{[], take}
use Rattle.ipp_codec.specs.Octets.{IsValue}
use Rattle.ipp_codec.specs.MessageSpelling.{value_spelling}
use Rattle.ipp_codec.proofs.Added.{AreAdded}
use Rattle.ipp_codec.proofs.writing.put_values.Given as goal

abbrev pub invariant-loop-value : goal.invariant-loop-value
invariant-loop-value l = AreAdded (value_spelling []) IsValue l.fn.out.items l.out.items (take l.value-index l.values)
