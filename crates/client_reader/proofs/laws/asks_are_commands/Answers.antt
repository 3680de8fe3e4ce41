use Rattle.client_reader.proofs.AskLaws.{all_same}
use Rattle.client_reader.proofs.laws.asks_are_commands.Goals as goal

pub returns : goal.returns
returns c = all_same c.own_words_are_no_commands.ensures
