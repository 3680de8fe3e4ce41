use Rattle.std.proofs.Common.{arith, ap, length, sym, take, ◌++◌, ◌∙◌, ◌≤◌}
use Rattle.spool_front.proofs.Pieces.{ahead_short, joined, parts, read_more}
use Rattle.spool_front.proofs.document.read_on.Goals as goal

pub returns-clause-bytes : goal.returns-clause-bytes
returns-clause-bytes g c =
    let kept = c.keep_ahead-kept in
    let read = take c.in_ok-count.count c.fill.new.buffer in
    let short = ahead_short c.args.filled c.args.buffer.now c.requires.in_buffer in
    let within : kept.result ≤ length kept.new.buffer = omega (arith, short, kept.ensures.count, kept.ensures.room) in
    read_more _ read _ _ _ _
    (ap (λ l. l ++ read) (sym kept.ensures.bytes) ∙ joined kept.result c.in_ok-count.count kept.new.buffer c.fill.new.buffer _ within c.in_ok-count.ensures.bound ∙ sym (parts _ _))
    c.in_ok-count.ensures.bytes
