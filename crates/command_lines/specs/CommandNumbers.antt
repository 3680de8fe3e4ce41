-- Numbers of 1 to 13 digits.
use Rattle.std.specs.Prelude.{ℕ, ◌&&◌, cond, nat_le, List, length, Option, None, Some}
use Rattle.line_words.specs.DecimalNumbers.{decimal}

abbrev pub number_of : List ℕ → Option ℕ
number_of word = cond (nat_le (length word) 13) (decimal 9999999999999 word) None

-- The number that the word states, if it is in this range.
abbrev pub ranged : ℕ → ℕ → List ℕ → Option ℕ
ranged least most word = elim (number_of word) [ None ↦ None | Some n ↦ cond (nat_le least n && nat_le n most) (Some n) None ]
