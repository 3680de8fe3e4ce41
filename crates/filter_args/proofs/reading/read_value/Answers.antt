use Rattle.std.proofs.Common.{sym, ◌∙◌}
use Rattle.filter_args.proofs.CharLaws.{said_plain}
use Rattle.filter_args.proofs.reading.read_value.Goals as goal

pub returns : goal.returns
returns c = sym (said_plain c.args.raw.now (sym c.has_marks.ensures ∙ c.if-has_marks.false)).0
