-- Lists whose elements change one at a time.
use Rattle.std.proofs.Common.{ℕ, zero, suc, List, [], ◌∷◌, ◌++◌, get_or, set}
use Rattle.ipp_submission.specs.JobRuns.{Each, Pairs}

pub all_set : {A : Type 0} (P : A → Type 0) (xs : List A) (i : ℕ) (x : A) → Each P xs → P x → Each P (set xs i x)
all_set P [] i x h k = h
all_set P (a ∷ xs) zero x h k = (k, h.1)
all_set P (a ∷ xs) (suc i) x h k = (h.0, all_set P xs i x h.1 k)

pub all_get : {A : Type 0} (P : A → Type 0) (xs : List A) (i : ℕ) (d : A) → Each P xs → P d → P (get_or xs i d)
all_get P [] i d h k = k
all_get P (a ∷ xs) zero d h k = h.0
all_get P (a ∷ xs) (suc i) d h k = all_get P xs i d h.1 k

pub all_append : {A : Type 0} (P : A → Type 0) (xs : List A) (x : A) → Each P xs → P x → Each P (xs ++ x ∷ [])
all_append P [] x h k = (k, tt)
all_append P (a ∷ xs) x h k = (h.0, all_append P xs x h.1 k)

pub all_map : {A : Type 0} (P Q : A → Type 0) (xs : List A) → ((x : A) → P x → Q x) → Each P xs → Each Q xs
all_map P Q [] f h = tt
all_map P Q (a ∷ xs) f h = (f a h.0, all_map P Q xs f h.1)

pub pairs_set : {A B : Type 0} (P : A → B → Type 0) (xs : List A) (ys : List B) (i : ℕ) (x : A) (y : B) →
    Pairs P xs ys → P x y → Pairs P (set xs i x) (set ys i y)
pairs_set P [] [] i x y h k = tt
pairs_set P [] (b ∷ ys) i x y h k = absurd h
pairs_set P (a ∷ xs) [] i x y h k = absurd h
pairs_set P (a ∷ xs) (b ∷ ys) zero x y h k = (k, h.1)
pairs_set P (a ∷ xs) (b ∷ ys) (suc i) x y h k = (h.0, pairs_set P xs ys i x y h.1 k)

pub pairs_get : {A B : Type 0} (P : A → B → Type 0) (xs : List A) (ys : List B) (i : ℕ) (d : A) (e : B) →
    Pairs P xs ys → P d e → P (get_or xs i d) (get_or ys i e)
pairs_get P [] [] i d e h k = k
pairs_get P [] (b ∷ ys) i d e h k = absurd h
pairs_get P (a ∷ xs) [] i d e h k = absurd h
pairs_get P (a ∷ xs) (b ∷ ys) zero d e h k = h.0
pairs_get P (a ∷ xs) (b ∷ ys) (suc i) d e h k = pairs_get P xs ys i d e h.1 k

pub pairs_append : {A B : Type 0} (P : A → B → Type 0) (xs : List A) (ys : List B) (x : A) (y : B) →
    Pairs P xs ys → P x y → Pairs P (xs ++ x ∷ []) (ys ++ y ∷ [])
pairs_append P [] [] x y h k = (k, tt)
pairs_append P [] (b ∷ ys) x y h k = absurd h
pairs_append P (a ∷ xs) [] x y h k = absurd h
pairs_append P (a ∷ xs) (b ∷ ys) x y h k = (h.0, pairs_append P xs ys x y h.1 k)

-- One of the second list changes.
pub pairs_change : {A B : Type 0} (P : A → B → Type 0) (xs : List A) (ys : List B) (i : ℕ) (e : B) (change : B → B) →
    ((x : A) (y : B) → P x y → P x (change y)) → Pairs P xs ys → Pairs P xs (set ys i (change (get_or ys i e)))
pairs_change P [] [] i e change f h = tt
pairs_change P [] (b ∷ ys) i e change f h = absurd h
pairs_change P (a ∷ xs) [] i e change f h = absurd h
pairs_change P (a ∷ xs) (b ∷ ys) zero e change f h = (f a b h.0, h.1)
pairs_change P (a ∷ xs) (b ∷ ys) (suc i) e change f h = (h.0, pairs_change P xs ys i e change f h.1)

pub pairs_map : {A B : Type 0} (P Q : A → B → Type 0) (xs : List A) (ys : List B) →
    ((x : A) (y : B) → P x y → Q x y) → Pairs P xs ys → Pairs Q xs ys
pairs_map P Q [] [] f h = tt
pairs_map P Q [] (b ∷ ys) f h = absurd h
pairs_map P Q (a ∷ xs) [] f h = absurd h
pairs_map P Q (a ∷ xs) (b ∷ ys) f h = (f a b h.0, pairs_map P Q xs ys f h.1)

-- Something holds for each of the second list, too.
pub pairs_map_all : {A B : Type 0} (P Q : A → B → Type 0) (R : B → Type 0) (xs : List A) (ys : List B) →
    ((x : A) (y : B) → P x y → R y → Q x y) → Pairs P xs ys → Each R ys → Pairs Q xs ys
pairs_map_all P Q R [] [] f h k = tt
pairs_map_all P Q R [] (b ∷ ys) f h k = absurd h
pairs_map_all P Q R (a ∷ xs) [] f h k = absurd h
pairs_map_all P Q R (a ∷ xs) (b ∷ ys) f h k = (f a b h.0 k.0, pairs_map_all P Q R xs ys f h.1 k.1)
