use Rattle.std.proofs.Common.{◌∙◌}
use Rattle.mime_rules.proofs.FindLaws.{found_some}
use Rattle.mime_rules.proofs.meaning.contains.Goals as goal

pub returns : goal.returns
returns c = c.is_some.ensures ∙ found_some c.args.bytes.now c.args.text.now c.find.result c.find.ensures
