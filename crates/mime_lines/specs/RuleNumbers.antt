-- Numbers: decimal, hexadecimal after `0x`, octal after `0`.
use Rattle.std.specs.Prelude.{ℕ, suc, ◌+◌, ◌*◌, ◌-◌, Bool, true, false, ◌&&◌, ◌||◌, not, cond, nat_le, ◌==◌, List, [], ◌∷◌, Option, None, Some}
use Rattle.std.specs.List.{list_all}
use Rattle.mime_lines.specs.declared.numbers.Number.{Number}
use Rattle.mime_lines.specs.declared.numbers.Number.TheVariants.{Fits, TooGreat}

abbrev pub is_between : ℕ → ℕ → ℕ → Bool
is_between least most b = nat_le least b && nat_le b most

abbrev pub is_digit : ℕ → Bool
is_digit b = is_between 48 57 b

-- A digit, or a letter from a to f in either case.
abbrev pub is_hex_digit : ℕ → Bool
is_hex_digit b = is_digit b || is_between 65 70 b || is_between 97 102 b

abbrev pub digit_value : ℕ → ℕ
digit_value b = cond (nat_le b 57) (b - 48) (cond (nat_le b 70) (b - 55) (b - 87))

-- The number in a base, continued from n.
abbrev pub read_on : ℕ → ℕ → List ℕ → ℕ
read_on base n [] = n
read_on base n (b ∷ bs) = read_on base (base * n + digit_value b) bs

-- A digit of this base.
abbrev pub is_digit_in : ℕ → ℕ → Bool
is_digit_in base b = is_hex_digit b && nat_le (suc (digit_value b)) base

-- The number in this base, if all of these are digits of it.
abbrev pub in_base : ℕ → List ℕ → Option ℕ
in_base base digits = cond (list_all (is_digit_in base) digits) (Some (read_on base 0 digits)) None

abbrev pub is_empty : List ℕ → Bool
is_empty [] = true
is_empty (b ∷ bs) = false

-- After a 0: hexadecimal if an x and a digit follow, otherwise octal.
abbrev pub behind_zero : List ℕ → Option ℕ
behind_zero [] = Some 0
behind_zero (b ∷ bs) = cond ((b == 120) && not (is_empty bs)) (in_base 16 bs) (in_base 8 (b ∷ bs))

-- The number of a word, or None if it does not have the form of a number.
abbrev pub number_of : List ℕ → Option ℕ
number_of [] = None
number_of (b ∷ bs) = cond (b == 48) (behind_zero bs) (in_base 10 (b ∷ bs))

-- The greatest number in a file.
abbrev pub greatest : ℕ
greatest = 4294967295

-- The number in memory: in 32 bits, or too great for them.
abbrev pub told : ℕ → Number
told n = cond (nat_le n greatest) (Fits n) TooGreat
