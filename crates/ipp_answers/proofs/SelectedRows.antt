-- A choice of rows, before or after the facts state them.
use Rattle.std.proofs.Common.{◌≡◌, ◌∙◌, ◌∷◌, Bool, true, false, List, [], ap, cond, map, refl, sym}
use Rattle.std.specs.Prelude.{filter}

picked : {A B : Type 0} (f : A → B) (b : Bool) (x : A) (zs : List A) (ys : List B) → ys ≡ map f zs → cond b (f x ∷ ys) ys ≡ map f (cond b (x ∷ zs) zs)
picked f true x zs ys is = ap (λ t. f x ∷ t) is
picked f false x zs ys is = is

pub filter_of_map : {A B : Type 0} (f : A → B) (p : B → Bool) (xs : List A) → filter p (map f xs) ≡ map f (filter (λ x. p (f x)) xs)
filter_of_map f p [] = refl
filter_of_map f p (x ∷ xs) = picked f (p (f x)) x (filter (λ y. p (f y)) xs) (filter p (map f xs)) (filter_of_map f p xs)

-- The rows of a table that pass, when the facts have stated them.
pub chosen : {A B : Type 0} (f : A → B) (p : B → Bool) (table : List A) (stated : List B) → map f table ≡ stated → map f (filter (λ x. p (f x)) table) ≡ filter p stated
chosen f p table stated is = sym (filter_of_map f p table) ∙ ap (λ t. filter p t) is
