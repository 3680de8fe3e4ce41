-- The words for the answers of polls.
use Rattle.std.proofs.Common.{◌≡◌, ℕ, Bool, List, [], ◌∷◌, ◌++◌, sym, ap, ◌∙◌, append_assoc, append-nil}
use Rattle.spool_scripts.specs.Outcomes.{look_word, look_words}

-- One more poll.
pub words_more : (looks : List Bool) (ended : Bool) (words rest behind : List ℕ) → words ≡ look_words looks ++ rest → rest ≡ look_word ended ++ behind → words ≡ look_words (looks ++ ended ∷ []) ++ behind
words_more looks ended words rest behind is next =
    is ∙ ap (λ xs. look_words looks ++ xs) next
    ∙ sym (append_assoc (look_words looks) (look_word ended) behind)
    ∙ ap (λ xs. xs ++ behind) (sym (at_end looks))
  where
    at_end : (xs : List Bool) → look_words (xs ++ ended ∷ []) ≡ look_words xs ++ look_word ended
    at_end [] = append-nil (look_word ended)
    at_end (x ∷ xs) = ap (λ ws. look_word x ++ ws) (at_end xs) ∙ sym (append_assoc (look_word x) (look_words xs) (look_word ended))
