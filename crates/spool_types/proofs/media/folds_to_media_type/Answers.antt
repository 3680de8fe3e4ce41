use Rattle.std.proofs.Common.{◌∙◌}
use Rattle.spool_types.proofs.Folded.{media_folded}
use Rattle.spool_types.proofs.media.folds_to_media_type.Goals as goal

pub returns : goal.returns
returns c = c.folds_to_two_parts.ensures ∙ media_folded c.args.text.now
