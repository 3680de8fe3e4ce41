-- The line that shows how much of a document was sent.
use Rattle.std.specs.Prelude.{ℕ, ◌+◌, ◌-◌, ◌*◌, ◌/◌, max, min, cond, nat_le, List, [], ◌++◌, codes, Option, None, Some}
use Rattle.std.specs.List.{repeat}
use Rattle.std.specs.Fmt.{decimal}
use Rattle.front_texts.specs.Sizes.{size_text}

-- An amount, as sizes are shown.
abbrev pub amount_text : ℕ → List ℕ
amount_text bytes = size_text bytes

-- The share in whole percent.
abbrev pub percent : ℕ → ℕ → ℕ
percent sent size = cond (nat_le size sent) 100 ((sent * 100) / size)

-- The bytes in a second, after this many milliseconds.
abbrev pub speed : ℕ → ℕ → ℕ
speed sent millis = min (sent * 1000) 18446744073709551615 / max millis 1

-- A bar of 20 columns, and the number.
abbrev pub bar_of : ℕ → List ℕ
bar_of share =
    codes "[" ++ (repeat (share / 5) (codes "#") ++ (repeat (20 - share / 5) (codes " ") ++ (codes "] " ++ (decimal share ++ codes " %, "))))

-- There is no bar if the length of the document is not known.
abbrev pub bar_text : ℕ → Option ℕ → List ℕ
bar_text sent None = []
bar_text sent (Some size) = bar_of (percent sent size)

abbrev pub progress_line : ℕ → Option ℕ → ℕ → List ℕ
progress_line sent size millis =
    codes "spool: " ++ (bar_text sent size ++ (amount_text sent ++ (codes " sent, " ++ (amount_text (speed sent millis) ++ codes "/s"))))
