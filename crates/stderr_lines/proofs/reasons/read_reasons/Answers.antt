use Rattle.std.proofs.Common.{◌≡◌, ◌≤◌, ◌++◌, length, ap, sym, ◌∙◌, arith}
use Rattle.std.proofs.lemmas.Bool.{false≢true}
use Rattle.std.proofs.lemmas.List.{append-nil}
use Rattle.std.specs.Option.{option_copied}
use Rattle.stderr_lines.specs.ReasonLines.{reasons_of}
use Rattle.stderr_lines.specs.Rests.{reasons_from}
use Rattle.stderr_lines.proofs.ReasonLaws.{reasons_count_bound}
use Rattle.stderr_lines.proofs.reasons.read_reasons.Goals as goal

pub unreachable-requires : goal.unreachable-requires
unreachable-requires c =
    let items = c.loop-rest.reasons.items in
    let e : items ≡ reasons_of c.args.text.now = sym (append-nil items) ∙ sym (ap (λ r. items ++ reasons_from (option_copied r)) c.in_default.is) ∙ c.loop-rest.invariant in
    let b = reasons_count_bound c.args.text.now in
    let l : length items ≤ 65535 = omega (arith, b, ap length e) in
    false≢true (c.in-Err.ensures.short.1 l)
