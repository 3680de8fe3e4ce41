use Rattle.stderr_lines.proofs.TextLaws.{printable_utf8}
use Rattle.stderr_lines.proofs.texts.printable_text.Goals as goal

pub unreachable-requires : goal.unreachable-requires
unreachable-requires c = c.in-Err.ensures.cases.0 (printable_utf8 c.args.bytes.now c.requires)
