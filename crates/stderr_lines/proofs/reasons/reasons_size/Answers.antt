use Rattle.std.proofs.Common.{◌≡◌, Some, ap, arith}
use Rattle.std.specs.Option.{option_copied}
use Rattle.stderr_lines.proofs.ReasonLaws.{reason_fits, reasons_size_bound}
use Rattle.stderr_lines.proofs.reasons.reasons_size.Goals as goal

pub overflow_add-size-in-Some-reason : goal.overflow_add-size-in-Some-reason
overflow_add-size-in-Some-reason c =
    let f = reason_fits c.args.text.now c.in-Some.here.now c.in-Some-reason.reason.now c.loop-rest.size (option_copied c.loop-rest.rest) (option_copied c.next_reason.result.0) (option_copied c.next_reason.result.1)
    c.requires c.loop-rest.invariant (ap option_copied c.in-Some.is) c.next_reason.ensures.reasons (ap option_copied c.in-Some-reason.is) in
    omega arith

pub returns-clause-small : goal.returns-clause-small
returns-clause-small c =
    let b = reasons_size_bound c.args.text.now in
    let i = c.loop-rest.invariant in
    omega (arith, b, i)
