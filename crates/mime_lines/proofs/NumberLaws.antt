-- Numbers that are read digit by digit.
use Rattle.std.proofs.Common.{◌≡◌, ℕ, suc, zero, ◌+◌, ◌*◌, ◌<◌, ◌≤◌, Bool, true, List, [], ◌∷◌, length, get_or, drop, min, ap, sym, ◌∙◌, arith, inl, inr, ◌⊎◌}
use Rattle.std.proofs.lemmas.Bool.{and_parts, cases_lt}
use Rattle.std.proofs.Math.Nat.{mul-le-mul_left, mul_comm}
use Rattle.std.proofs.lemmas.List.{drop_more}
use Rattle.std.specs.List.{list_all}
use Rattle.mime_lines.specs.RuleNumbers.{read_on, digit_value}

-- Digits after a number do not decrease it.
grows : (base n m : ℕ) (digits : List ℕ) → 1 ≤ base → m ≤ n → m ≤ read_on base n digits
grows base n m [] one h = h
grows base n m (b ∷ bs) one h = grows base (base * n + digit_value b) m bs one (more base n (digit_value b) m one h)
  where
    more : (base n d m : ℕ) → 1 ≤ base → m ≤ n → m ≤ base * n + d
    more base n d m one h = let p : n * 1 ≤ n * base = mul-le-mul_left n one in omega (arith, p, mul_comm n base)

-- Digits after a number that is limited to m yield the same number, limited to m.
pub read_cut : (base n m : ℕ) (digits : List ℕ) → 1 ≤ base → min m (read_on base (min n m) digits) ≡ min m (read_on base n digits)
read_cut base n m digits one = cases (cases_lt n m)
  where
    cases : (n < m) ⊎ (m ≤ n) → min m (read_on base (min n m) digits) ≡ min m (read_on base n digits)
    cases (inl h) = let e : min n m ≡ n = omega arith in ap (λ v. min m (read_on base v digits)) e
    cases (inr h) =
        let e : min n m ≡ m = omega arith in
        let p : m ≤ read_on base m digits = grows base m m digits one (omega arith) in
        let q : m ≤ read_on base n digits = grows base n m digits one h in
        ap (λ v. min m (read_on base v digits)) e ∙ omega arith

-- Each of them passes.
pub passes : (p : ℕ → Bool) (xs : List ℕ) (i : ℕ) → i < length xs → list_all p xs ≡ true → p (get_or xs i 0) ≡ true
passes p [] i less h = absurd (omega arith)
passes p (x ∷ xs) zero less h = (and_parts (p x) (list_all p xs) h).0
passes p (x ∷ xs) (suc i) less h = passes p xs i (omega arith) (and_parts (p x) (list_all p xs) h).1

-- One more digit of a limited number.
pub read_more : (base value d : ℕ) (digits : List ℕ) (i : ℕ) → i < length digits → 1 ≤ base → d ≡ digit_value (get_or digits i 0) → min 4294967296 (read_on base value (drop i digits)) ≡ min 4294967296 (read_on base 0 digits)
    → min 4294967296 (read_on base (min (value * base + d) 4294967296) (drop (i + 1) digits)) ≡ min 4294967296 (read_on base 0 digits)
read_more base value d digits i less one is same =
    read_cut base (value * base + d) 4294967296 (drop (i + 1) digits) one
    ∙ ap (λ v. min 4294967296 (read_on base v (drop (i + 1) digits))) (ap (λ v. v + d) (mul_comm value base) ∙ ap (λ v. base * value + v) is)
    ∙ ap (λ l. min 4294967296 (read_on base value l)) (sym (drop_more digits i 0 less))
    ∙ same
