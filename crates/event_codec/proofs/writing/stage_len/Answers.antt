use Rattle.std.proofs.Common.{arith, length-append}
use Rattle.event_codec.proofs.Sizes.{listed_size}
use Rattle.event_codec.proofs.writing.stage_len.Goals as goal

pub returns-clause-value : goal.returns-clause-value
returns-clause-value c = simp length-append (omega (arith, c.exit_len.ensures.value, c.code_len.ensures.value, listed_size c.args.end.now.effects))
