use Rattle.std.proofs.Common.{◌≡◌, ◌+◌, ◌*◌, drop, min, ap, ◌∙◌, arith}
use Rattle.mime_lines.specs.RuleNumbers.{read_on}
use Rattle.mime_lines.proofs.NumberLaws.{read_more}
use Rattle.mime_lines.proofs.numbers.digits_value.Goals as goal

pub loop-b-preserved : goal.loop-b-preserved
loop-b-preserved c =
    let value : c.min-value.result ≡ min (c.loop-b.value * c.args.base + c.digit_value.result) 4294967296 =
    c.min-value.ensures ∙ ap (λ n. min (c.loop-b.value * n + c.from-in-loop-b.result) 4294967296) c.from.ensures ∙ ap (λ n. min (c.loop-b.value * c.args.base + n) 4294967296) c.from-in-loop-b.ensures in
    record {
      same =
          ap (λ v. min 4294967296 (read_on c.args.base v (drop (c.loop-b.b-index + 1) c.args.digits.now))) value
          ∙ read_more c.args.base c.loop-b.value c.digit_value.result c.args.digits.now c.loop-b.b-index c.loop-b-test.true c.requires.least c.digit_value.ensures c.loop-b.invariant.same;
      small = omega (arith, value);
    }
