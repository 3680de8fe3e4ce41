-- Decimal numbers.
use Rattle.std.specs.Prelude.{ℕ, ◌+◌, ◌-◌, ◌*◌, Bool, ◌&&◌, cond, nat_le, List, [], ◌∷◌, length, Option, None, Some}
use Rattle.std.specs.List.{list_all}
use Rattle.std.specs.Char.{is_ascii_digit}

-- The number, continued from n.
abbrev pub read_on : ℕ → List ℕ → ℕ
read_on n [] = n
read_on n (b ∷ bs) = read_on (10 * n + (b - 48)) bs

-- One or more digits, with a value of at most the first argument.
abbrev pub is_decimal : ℕ → List ℕ → Bool
is_decimal most word = nat_le 1 (length word) && list_all is_ascii_digit word && nat_le (read_on 0 word) most

abbrev pub decimal : ℕ → List ℕ → Option ℕ
decimal most word = cond (is_decimal most word) (Some (read_on 0 word)) None
