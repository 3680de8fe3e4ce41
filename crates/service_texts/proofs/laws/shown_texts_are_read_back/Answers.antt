use Rattle.service_texts.proofs.ReadBack.{read_back}
use Rattle.service_texts.proofs.laws.shown_texts_are_read_back.Goals as goal

pub returns : goal.returns
returns c text rest = read_back text rest
