use Rattle.spool_types.proofs.Words.{no_text, some_text}
use Rattle.spool_types.proofs.text.Text.from_word.Goals as goal

pub returns-in_default : goal.returns-in_default
returns-in_default g c = no_text g.K.TextKind.allowed c.args.word.now c.in_default.ensures.cases.0

pub returns-in-Ok-read : goal.returns-in-Ok-read
returns-in-Ok-read g c = some_text g.K.TextKind.allowed c.args.word.now c.in-Ok.text.now c.in-Ok-read.text c.in-Ok.ensures.cases c.in-Ok-read.ensures.allowed c.in-Ok-read.ensures.value
