use Rattle.std.proofs.Common.{arith, sym, ◌∙◌}
use Rattle.std.proofs.lemmas.Bool.{ltb-true, ltb-false}
use Rattle.std.proofs.lemmas.Bool.Decides.{nat_tests}
use Rattle.std.proofs.lemmas.Grind.{common_steps}
use Rattle.line_words.specs.WordFields.{bytes_of}
use Rattle.command_lines.proofs.GrammarLaws.{no_creation_by}
use Rattle.command_lines.proofs.line.createby_line.Goals as goal
use Rattle.command_lines.proofs.line.createby_line.Goals.{in_default-via-then-words-lt7, in_default-via-else-words-lt7+else-words-lt8}

pub returns-in_default : goal.returns-in_default
returns-in_default c = elim c.in_default.branch [
  | in_default-via-then-words-lt7 w ↦ no_creation_by bytes_of c.args.words.now (λ seven. first_of (omega (arith, ltb-true, ltb-false), grind (arith, nat_tests)))
  | in_default-via-else-words-lt7+else-words-lt8 w ↦ no_creation_by bytes_of c.args.words.now (λ seven. first_of (omega (arith, ltb-true, ltb-false), grind (arith, nat_tests)))
]

pub returns : goal.returns
returns c =
    let is = sym c.moment_number.ensures ∙ c.in-Some.is in
    grind (arith, common_steps, is)
