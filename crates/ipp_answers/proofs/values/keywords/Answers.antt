-- A map of a map.
use Rattle.std.proofs.Common.{◌≡◌, ◌∷◌, ℕ, List, [], ap, map, refl}
use Rattle.std.specs.Borrow.{Bor}
use Rattle.ipp_answers.specs.AnswerValues.{keyword_value}
use Rattle.ipp_answers.proofs.values.keywords.Goals as goal

together : {A B C : Type 0} (f : B → C) (g : A → B) (xs : List A) → map f (map g xs) ≡ map (λ x. f (g x)) xs
together f g [] = refl
together f g (x ∷ xs) = ap (λ t. f (g x) ∷ t) (together f g xs)

pub returns : goal.returns
returns c = rw (together keyword_value (λ (word : Bor (List ℕ)). word.now) c.args.words.now) c.strings.ensures
