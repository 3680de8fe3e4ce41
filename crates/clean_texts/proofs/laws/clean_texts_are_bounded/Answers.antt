use Rattle.clean_texts.proofs.CleanLemmas.{bounded}
use Rattle.clean_texts.proofs.laws.clean_texts_are_bounded.Goals as goal

pub returns : goal.returns
returns c = bounded
