use Rattle.std.proofs.Common.{◌≤◌, ◌-◌, length, arith}
use Rattle.stderr_lines.proofs.LineLaws.{rest_short, prefix_text}
use Rattle.stderr_lines.proofs.prefix.prefix_at.Goals as goal

pub overflow_sub-result : goal.overflow_sub-result
overflow_sub-result c =
    let s = rest_short c.args.line.now c.in_ok-name.name.now c.in_ok-name.rest.now c.in_ok-name.ensures in
    let b = c.after_blanks-text.ensures.bound in
    omega arith

pub returns : goal.returns
returns c =
    (omega arith, prefix_text c.args.line.now c.in_ok-name.name.now c.in_ok-name.rest.now c.after_blanks-text.result.now c.prefix_of.result c.in_ok-name.ensures c.after_blanks-text.ensures.value c.prefix_of.ensures)
