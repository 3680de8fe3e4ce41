use Rattle.service_texts.proofs.NoCommands.{no_own_word}
use Rattle.service_texts.proofs.laws.own_words_are_no_commands.Goals as goal

pub returns : goal.returns
returns c line word = no_own_word c.word_by_word.ensures line word
