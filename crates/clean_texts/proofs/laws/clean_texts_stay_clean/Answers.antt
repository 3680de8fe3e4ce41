use Rattle.clean_texts.proofs.CleanLemmas.{stay_clean}
use Rattle.clean_texts.proofs.laws.clean_texts_stay_clean.Goals as goal

pub returns : goal.returns
returns c = stay_clean
