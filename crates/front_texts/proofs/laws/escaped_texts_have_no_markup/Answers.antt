use Rattle.front_texts.proofs.EscapeLaws.{no_markup}
use Rattle.front_texts.proofs.laws.escaped_texts_have_no_markup.Goals as goal

pub returns : goal.returns
returns c = no_markup
