-- The result of the reader of words, as lists of bytes. No caller needs this.
use Rattle.line_words.specs.WordFields.{bytes_of}
use Rattle.command_lines.specs.CommandWords.{Front, ended, broken, word}
use Rattle.command_lines.specs.declared.words.Front.{Front as Found}
use Rattle.command_lines.specs.declared.words.Front.TheVariants.{Ended, Broken, Word as Next}

abbrev pub front_of : Found → Front
front_of Ended = ended
front_of Broken = broken
front_of (Next w rest) = word (bytes_of w) rest.now
