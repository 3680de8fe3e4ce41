-- Decimal numbers in arguments and options.
use Rattle.std.specs.Prelude.{ℕ, ◌&&◌, cond, nat_le, nat_lt, List, length, Option, None, Some}
use Rattle.std.specs.Char.{is_ascii_digit}
use Rattle.std.specs.List.{list_all}
use Rattle.std.specs.Str.Parse.{digits_value}

-- The number that the digits represent, if it is in the range.
abbrev pub ranged : ℕ → ℕ → List ℕ → Option ℕ
ranged least most text =
    let number = digits_value 10 text in
    cond (nat_lt 0 (length text) && list_all is_ascii_digit text && nat_le least number && nat_le number most) (Some number) None
