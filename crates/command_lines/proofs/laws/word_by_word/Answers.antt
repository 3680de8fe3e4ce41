use Rattle.command_lines.proofs.WordLaws.{words_of-line}
use Rattle.command_lines.proofs.laws.word_by_word.Goals as goal

pub returns : goal.returns
returns c = words_of-line
