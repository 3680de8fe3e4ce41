-- The pages that a line reports: `PAGE: page copies`, or `PAGE: total pages`.
use Rattle.std.specs.Prelude.{ℕ, Bool, cond, nat_eq, List, codes, Option, None, Some}
use Rattle.std.specs.Cmp.Lexicographic.{pointwise}
use Rattle.line_words.specs.Blanks.{first_word, after_word, is_nothing}
use Rattle.line_words.specs.DecimalNumbers.{decimal}
use Rattle.spool_types.specs.declared.effect.Effect.{Effect}
use Rattle.spool_types.specs.declared.effect.Effect.TheVariants.{Pages, TotalPages}

-- A number of any number of digits, at most 4,294,967,295.
abbrev pub number_of : List ℕ → Option ℕ
number_of word = decimal 4294967295 word

abbrev pub is_total : List ℕ → Bool
is_total word = pointwise nat_eq word (codes "total")

abbrev pub pages_of : Option ℕ → Option ℕ → Option Effect
pages_of (Some page) (Some copies) = Some (Pages page copies)
pages_of page copies = None

abbrev pub total_of : Option ℕ → Option Effect
total_of (Some pages) = Some (TotalPages pages)
total_of None = None

-- Two words, and no third.
abbrev pub two_words : List ℕ → List ℕ → Option Effect
two_words first second = cond (is_total first) (total_of (number_of second)) (pages_of (number_of first) (number_of second))

abbrev pub page_effect : List ℕ → Option Effect
page_effect text =
    cond (is_nothing (after_word (after_word text)))
    (two_words (first_word text) (first_word (after_word text)))
    None
