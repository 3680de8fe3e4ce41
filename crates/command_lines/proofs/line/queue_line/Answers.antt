use Rattle.std.proofs.Common.{arith}
use Rattle.std.proofs.lemmas.Bool.{ltb-true, ltb-false}
use Rattle.std.proofs.lemmas.Bool.Decides.{nat_tests}
use Rattle.line_words.specs.WordFields.{bytes_of}
use Rattle.command_lines.proofs.GrammarLaws.{no_queue}
use Rattle.command_lines.proofs.line.queue_line.Goals as goal
use Rattle.command_lines.proofs.line.queue_line.Goals.{in_default-via-then-words-lt4, in_default-via-else-words-lt4+else-words-lt5+else-words-lt6+else-words-lt7}

pub returns-in_default : goal.returns-in_default
returns-in_default c = elim c.in_default.branch [
  | in_default-via-then-words-lt4 w ↦ no_queue bytes_of c.args.words.now (λ four. first_of (omega (arith, ltb-true, ltb-false), grind (arith, nat_tests)))
  | in_default-via-else-words-lt4+else-words-lt5+else-words-lt6+else-words-lt7 w ↦ no_queue bytes_of c.args.words.now (λ four. first_of (omega (arith, ltb-true, ltb-false), grind (arith, nat_tests)))
]
