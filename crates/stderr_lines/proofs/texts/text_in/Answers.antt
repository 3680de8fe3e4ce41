use Rattle.std.proofs.Common.{sym, ◌∙◌}
use Rattle.stderr_lines.proofs.TextLaws.{no_text, some_text, other_text}
use Rattle.stderr_lines.proofs.texts.text_in.Goals as goal

pub returns-in_default : goal.returns-in_default
returns-in_default g c = no_text g.K.TextKind.allowed c.args.bytes.now c.in_default.ensures.cases.0

pub returns-then-allows : goal.returns-then-allows
returns-then-allows g c = some_text g.K.TextKind.allowed c.args.bytes.now c.in-Ok.text.now c.in-Ok.ensures.cases (sym c.allows.ensures ∙ c.if-allows.true)

pub returns-else-allows : goal.returns-else-allows
returns-else-allows g c = other_text g.K.TextKind.allowed c.args.bytes.now c.in-Ok.text.now c.in-Ok.ensures.cases (sym c.allows.ensures ∙ c.if-allows.false)
