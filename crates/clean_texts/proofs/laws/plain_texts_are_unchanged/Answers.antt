use Rattle.clean_texts.proofs.CleanLemmas.{unchanged}
use Rattle.clean_texts.proofs.laws.plain_texts_are_unchanged.Goals as goal

pub returns : goal.returns
returns c = unchanged
