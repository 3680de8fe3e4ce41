use Rattle.std.proofs.Common.{◌+◌, take, ap, ◌∙◌, Some}
use Rattle.std.proofs.lemmas.List.{take_rest}
use Rattle.line_words.proofs.QuoteLaws.{with_bytes-nil}
use Rattle.stderr_lines.specs.Cuts.{cut_at}
use Rattle.stderr_lines.proofs.CutLaws.{cut_here, cut_more, cut_end}
use Rattle.stderr_lines.proofs.cuts.cut_at.Goals as goal

pub loop-i-init : goal.loop-i-init
loop-i-init c = with_bytes-nil (cut_at c.args.c c.args.bytes.now)

pub returns-then-b-c : goal.returns-then-b-c
returns-then-b-c c =
    let xs = c.args.bytes.now in
    let i = c.loop-i.i in
    ap (λ l. Some (take i xs, l)) (take_rest xs (i + 1)) ∙ cut_here c.args.c xs i c.loop-i-test.true (cut_at c.args.c xs) c.loop-i.invariant c.if-b-c.true

pub loop-i-preserved : goal.loop-i-preserved
loop-i-preserved c = cut_more c.args.c c.args.bytes.now c.loop-i.i c.loop-i-test.true (cut_at c.args.c c.args.bytes.now) c.loop-i.invariant c.if-b-c.false

pub returns : goal.returns
returns c = cut_end c.args.c c.args.bytes.now c.loop-i.i (cut_at c.args.c c.args.bytes.now) c.loop-i-test.false c.loop-i.invariant
