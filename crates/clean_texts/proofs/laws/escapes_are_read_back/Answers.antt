use Rattle.clean_texts.proofs.JsonLemmas.{read_back}
use Rattle.clean_texts.proofs.laws.escapes_are_read_back.Goals as goal

pub returns : goal.returns
returns c = read_back
