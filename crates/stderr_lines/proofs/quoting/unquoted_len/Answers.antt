use Rattle.std.proofs.Common.{arith}
use Rattle.line_words.specs.declared.quoting.Quoting.TheVariants.{Bare}
use Rattle.stderr_lines.proofs.QuotingLaws.{unquoted_text}
use Rattle.stderr_lines.proofs.quoting.unquoted_len.Goals as goal

pub returns-clause-small : goal.returns-clause-small
returns-clause-small c =
    let s = (unquoted_text Bare c.args.text.now c.requires).short in
    let i = c.loop-b.invariant.same in
    omega (arith, s, i)
