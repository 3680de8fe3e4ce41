-- The reasons of a queue (printer-state-reasons, RFC 8011): words in ascending order, without duplicates.
use Rattle.std.specs.Prelude.{ℕ, Bool, not, cond, List, [], ◌∷◌, fold}
use Rattle.std.specs.List.{filter}
use Rattle.row_effects.specs.Keys.{has_key, with_kept}

-- A reason is its own key.
abbrev pub word_of : List ℕ → List ℕ
word_of word = word

abbrev pub has_word : List ℕ → List (List ℕ) → Bool
has_word word words = has_key word_of word words

-- If the list is full, a new word is dropped.
abbrev pub add_reason : List (List ℕ) → List ℕ → List (List ℕ)
add_reason reasons word = with_kept word_of word reasons

-- Each word in the given order.
abbrev pub add_reasons : List (List ℕ) → List (List ℕ) → List (List ℕ)
add_reasons words reasons = fold add_reason reasons words

abbrev pub set_reasons : List (List ℕ) → List (List ℕ)
set_reasons words = add_reasons words []

abbrev pub drop_reasons : List (List ℕ) → List (List ℕ) → List (List ℕ)
drop_reasons words reasons = filter (λ reason. not (has_word reason words)) reasons

-- The words that are not among those seen, without duplicates, in the given order.
abbrev pub new_words : List (List ℕ) → List (List ℕ) → List (List ℕ)
new_words seen [] = []
new_words seen (word ∷ words) = cond (has_word word seen) (new_words seen words) (word ∷ new_words (word ∷ seen) words)
