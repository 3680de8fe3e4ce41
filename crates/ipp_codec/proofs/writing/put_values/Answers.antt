use Rattle.std.proofs.Common.{[]}
use Rattle.ipp_codec.specs.Octets.{IsValue}
use Rattle.ipp_codec.specs.MessageSpelling.{value_spelling}
use Rattle.ipp_codec.proofs.Added.{next_added}
use Rattle.ipp_codec.proofs.writing.put_values.Goals as goal

pub loop-value-preserved : goal.loop-value-preserved
loop-value-preserved c = next_added (value_spelling []) IsValue c.args.out.now.items c.loop-value.out.items c.put_additional.new.out.items c.args.values.now c.loop-value.value-index c.value-item.result c.value-item.is c.loop-value-test.true c.loop-value.invariant c.in_ok-put_additional.ensures.written c.in_ok-put_additional.ensures.legal
