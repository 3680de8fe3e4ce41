-- Numbers that are read digit by digit.
use Rattle.std.proofs.Common.{◌≡◌, ◌&&◌, ℕ, ◌+◌, ◌*◌, ◌-◌, ◌<◌, ◌≤◌, false, cond, List, [], ◌∷◌, length, get_or, drop, leb, ap, sym, ◌∙◌, arith, None, Some}
use Rattle.std.proofs.lemmas.Bool.{and_right, lt-leb}
use Rattle.std.proofs.lemmas.List.{drop_more}
use Rattle.std.specs.List.{list_all}
use Rattle.std.specs.Char.{is_ascii_digit}
use Rattle.line_words.specs.DecimalNumbers.{read_on, is_decimal, decimal}

-- Digits after a number do not decrease it.
grows : (n : ℕ) (digits : List ℕ) → n ≤ read_on n digits
grows n [] = omega arith
grows n (b ∷ bs) = let h = grows (10 * n + (b - 48)) bs in omega arith

-- A number that is too great after some digits is too great.
pub too_great : (most : ℕ) (word : List ℕ) (i value : ℕ) → i < length word → read_on value (drop i word) ≡ read_on 0 word → (d : ℕ) → d ≡ get_or word i 0 - 48 → most < value * 10 + d → None ≡ decimal most word
too_great most word i value less same d is h =
    let n : read_on (10 * value + (get_or word i 0 - 48)) (drop (i + 1) word) ≡ read_on 0 word = sym (ap (read_on value) (drop_more word i 0 less)) ∙ same in
    let g = grows (10 * value + (get_or word i 0 - 48)) (drop (i + 1) word) in
    let not : is_decimal most word ≡ false = and_right (leb 1 (length word) && list_all is_ascii_digit word) (leb (read_on 0 word) most) (lt-leb (read_on 0 word) most (omega arith)) in
    ap (λ v. cond v (Some (read_on 0 word)) None) (sym not)
