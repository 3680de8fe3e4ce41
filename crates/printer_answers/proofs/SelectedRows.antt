-- A choice of rows, before or after the facts state them.
use Rattle.std.proofs.Common.{◌≡◌, ◌∙◌, ◌++◌, ◌∷◌, Bool, true, false, List, [], Option, ap, cond, map, refl, sym}
use Rattle.std.specs.Prelude.{filter}
use Rattle.std.specs.List.{filter_map}
use Rattle.std.proofs.lemmas.List.Elements.{filter-append, filter_map-append}

picked : {A B : Type 0} (f : A → B) (b : Bool) (x : A) (zs : List A) (ys : List B) → ys ≡ map f zs → cond b (f x ∷ ys) ys ≡ map f (cond b (x ∷ zs) zs)
picked f true x zs ys is = ap (λ t. f x ∷ t) is
picked f false x zs ys is = is

pub filter_of_map : {A B : Type 0} (f : A → B) (p : B → Bool) (xs : List A) → filter p (map f xs) ≡ map f (filter (λ x. p (f x)) xs)
filter_of_map f p [] = refl
filter_of_map f p (x ∷ xs) = picked f (p (f x)) x (filter (λ y. p (f y)) xs) (filter p (map f xs)) (filter_of_map f p xs)

-- The rows of a table that pass, when the facts have stated them.
pub chosen : {A B : Type 0} (f : A → B) (p : B → Bool) (table : List A) (stated : List B) → map f table ≡ stated → map f (filter (λ x. p (f x)) table) ≡ filter p stated
chosen f p table stated is = sym (filter_of_map f p table) ∙ ap (λ t. filter p t) is

-- The same of two tables, in their order.
pub chosen_of_two : {A B : Type 0} (f : A → B) (p : B → Bool) (first second rows others : List A) (stated also : List B)
    → rows ≡ filter (λ x. p (f x)) first → others ≡ filter (λ x. p (f x)) second → map f first ≡ stated → map f second ≡ also
    → map f rows ++ map f others ≡ filter p (stated ++ also)
chosen_of_two f p first second rows others stated also is so one two =
    ap (λ t. t ++ map f others) (ap (map f) is ∙ chosen f p first stated one)
    ∙ (ap (λ t. filter p stated ++ t) (ap (map f) so ∙ chosen f p second also two) ∙ sym (filter-append p stated also))

-- The rows of two tables, in their order.
pub of_two : {A B : Type 0} (f : A → Option B) (xs ys : List A) (start first all : List B) → start ≡ [] → first ≡ start ++ filter_map f xs → all ≡ first ++ filter_map f ys → all ≡ filter_map f (xs ++ ys)
of_two {B = B} f xs ys start first all none one two =
    two ∙ ap (λ (l : List B). l ++ filter_map f ys) (one ∙ ap (λ (l : List B). l ++ filter_map f xs) none) ∙ sym (filter_map-append f xs ys)
