use Rattle.std.proofs.Common.{arith}
use Rattle.std.proofs.lemmas.Bool.{ltb-true, ltb-false}
use Rattle.std.proofs.lemmas.Bool.Decides.{nat_tests}
use Rattle.line_words.specs.WordFields.{bytes_of}
use Rattle.command_lines.proofs.GrammarLaws.{no_creation}
use Rattle.command_lines.proofs.line.create_line.Goals as goal
use Rattle.command_lines.proofs.line.create_line.Goals.{in_default-via-then-words-lt6, in_default-via-else-words-lt6+else-words-lt7}

pub returns-in_default : goal.returns-in_default
returns-in_default c = elim c.in_default.branch [
  | in_default-via-then-words-lt6 w ↦ no_creation bytes_of c.args.words.now (λ six. first_of (omega (arith, ltb-true, ltb-false), grind (arith, nat_tests)))
  | in_default-via-else-words-lt6+else-words-lt7 w ↦ no_creation bytes_of c.args.words.now (λ six. first_of (omega (arith, ltb-true, ltb-false), grind (arith, nat_tests)))
]
