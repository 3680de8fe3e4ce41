-- A list whose elements change one after another.
use Rattle.std.proofs.Common.{◌≡◌, ℕ, zero, suc, ◌+◌, ◌<◌, ◌≤◌, List, [], ◌∷◌, ◌++◌, length, get_or, take, drop, map, slice_set, refl, ap, ◌∙◌, add-one, arith}
use Rattle.std.proofs.lemmas.List.{append-nil, drop_all, take_all}

-- The first `n` elements have changed.
abbrev pub part : {A : Type 0} → (A → A) → ℕ → List A → List A
part f zero xs = xs
part f (suc i) [] = []
part f (suc i) (x ∷ xs) = f x ∷ part f i xs

-- All have changed.
part-all : {A : Type 0} (f : A → A) (i : ℕ) (xs : List A) → length xs ≤ i → part f i xs ≡ map f xs
part-all f zero [] le = refl
part-all f zero (x ∷ xs) le = absurd (omega arith)
part-all f (suc i) [] le = refl
part-all f (suc i) (x ∷ xs) le = ap (λ ys. f x ∷ ys) (part-all f i xs (omega arith))

-- The next one has not.
part-next : {A : Type 0} (f : A → A) (i : ℕ) (xs : List A) (d : A) → get_or (part f i xs) i d ≡ get_or xs i d
part-next f zero xs d = refl
part-next f (suc i) [] d = refl
part-next f (suc i) (x ∷ xs) d = part-next f i xs d

part-length : {A : Type 0} (f : A → A) (i : ℕ) (xs : List A) → length (part f i xs) ≡ length xs
part-length f zero xs = refl
part-length f (suc i) [] = refl
part-length f (suc i) (x ∷ xs) = ap suc (part-length f i xs)

-- Then it changes.
part-suc : {A : Type 0} (f : A → A) (i : ℕ) (xs : List A) (x y : A) → i < length xs → x ≡ get_or xs i x → y ≡ f x → slice_set (part f i xs) i y ≡ part f (suc i) xs
part-suc f zero [] x y lt is new = absurd (omega arith)
part-suc f zero (x0 ∷ xs) x y lt is new = ap (λ z. z ∷ xs) (new ∙ ap f is)
part-suc f (suc i) [] x y lt is new = absurd (omega arith)
part-suc f (suc i) (x0 ∷ xs) x y lt is new = ap (λ ys. f x0 ∷ ys) (part-suc f i xs x y (omega arith) is new)

pub part-step : {A : Type 0} (f : A → A) (i : ℕ) (items xs : List A) (x y : A) → items ≡ part f i xs → i < length items → x ≡ get_or items i x → y ≡ f x → slice_set items i y ≡ part f (i + 1) xs
part-step f i items xs x y same lt is new =
    let fits : i < length xs = rw (← part-length f i xs, ← same) lt in
    rw (same, add-one) (part-suc f i xs x y fits (is ∙ ap (λ l. get_or l i x) same ∙ part-next f i xs x) new)

-- The list written back after all elements changed.
pub part-whole : {A : Type 0} (f : A → A) (i n : ℕ) (items xs : List A) → items ≡ part f i xs → length items ≤ i → n ≡ length xs → take n (items ++ drop (length items) xs) ≡ map f xs
part-whole f i n items xs same le len =
    let long : length items ≡ length xs = ap length same ∙ part-length f i xs in
    let none : drop (length items) xs ≡ [] = drop_all (length items) xs (omega arith) in
    let all : items ≡ map f xs = same ∙ part-all f i xs (omega arith) in
    ap (λ l. take n (items ++ l)) none ∙ ap (take n) (append-nil items) ∙ take_all n items (omega arith) ∙ all
