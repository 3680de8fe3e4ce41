use Rattle.std.proofs.Common.{sym, ◌∙◌}
use Rattle.device_uri.proofs.LineLaws.{no_text}
use Rattle.device_uri.proofs.line.read_text.Goals as goal

pub returns-in-None-clause-bad : goal.returns-in-None-clause-bad
returns-in-None-clause-bad g c = λ bad. no_text g.K.TextKind.allowed c.args.word.now (sym c.in-None.is ∙ c.in_ok-text.ensures)
