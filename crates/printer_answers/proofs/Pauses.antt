-- The reasons of a printer that is paused.
use Rattle.std.proofs.Common.{◌≡◌, ℕ, Bool, true, false, List, [], ◌∷◌, ◌++◌, cond, map, refl}
use Rattle.std.specs.List.{list_any}
use Rattle.std.proofs.lemmas.List.{map-append}
use Rattle.requested_attributes.specs.AttributeGroups.{is_same}
use Rattle.printer_answers.specs.PrinterAnswers.{or_none, with_word}

pub pushed : {A B : Type 0} (f : A → B) (xs : List A) (x : A) → map f (xs ++ x ∷ []) ≡ map f xs ++ f x ∷ []
pushed f xs x = map-append f xs (x ∷ [])

one_of : (word first : List ℕ) (words : List (List ℕ)) (b : Bool) → or_none (cond b (first ∷ words) ((first ∷ words) ++ word ∷ [])) ≡ cond b (first ∷ words) ((first ∷ words) ++ word ∷ [])
one_of word first words true = refl
one_of word first words false = refl

-- With the word that the printer is paused there is a reason.
pub never_none : (word : List ℕ) (words : List (List ℕ)) → or_none (with_word word words) ≡ with_word word words
never_none word [] = refl
never_none word (first ∷ words) = one_of word first words (list_any (is_same word) (first ∷ words))
