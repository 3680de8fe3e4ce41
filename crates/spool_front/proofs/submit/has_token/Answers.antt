use Rattle.std.proofs.lemmas.Str.Pattern.{contains_text}
use Rattle.spool_front.proofs.submit.has_token.Goals as goal

pub returns : goal.returns
returns c = contains_text _ _ _ c.contains.ensures.cases
