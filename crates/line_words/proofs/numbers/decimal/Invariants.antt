-- The number of the digits so far.
use Rattle.std.proofs.Common.{◌≡◌, ◌≤◌, true, take, drop}
use Rattle.std.specs.List.{list_all}
use Rattle.std.specs.Char.{is_ascii_digit}
use Rattle.line_words.specs.DecimalNumbers.{read_on}
use Rattle.line_words.proofs.numbers.decimal.Given as goal

abbrev pub invariant-loop-b : goal.invariant-loop-b
invariant-loop-b l = record { same : read_on l.value (drop l.b-index l.word) ≡ read_on 0 l.word; digits : list_all is_ascii_digit (take l.b-index l.word) ≡ true; small : l.value ≤ l.most }
