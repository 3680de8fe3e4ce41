-- A quoted text, read from its front.
use Rattle.std.proofs.Common.{◌≡◌, ℕ, suc, ◌+◌, ◌<◌, ◌≤◌, Bool, true, false, cond, List, [], ◌∷◌, ◌++◌, length, get_or, drop, refl, ap, sym, ◌∙◌, arith, None, Some}
use Rattle.std.proofs.lemmas.List.{drop_more, drop_all, append_assoc, append-nil}
use Rattle.line_words.specs.Quotes.{is_quote, is_backslash, escape_of, QuotedFront, with_bytes, quoted}

pub with_bytes-nil : (front : QuotedFront) → with_bytes [] front ≡ front
with_bytes-nil None = refl
with_bytes-nil (Some (text, rest)) = refl

pub with_bytes-append : (xs ys : List ℕ) (front : QuotedFront) → with_bytes (xs ++ ys) front ≡ with_bytes xs (with_bytes ys front)
with_bytes-append xs ys None = refl
with_bytes-append xs ys (Some (text, rest)) = ap (λ l. Some (l, rest)) (append_assoc xs ys text)

pub with_bytes-some : (xs rest : List ℕ) → with_bytes xs (Some ([], rest)) ≡ Some (xs, rest)
with_bytes-some xs rest = ap (λ l. Some (l, rest)) (append-nil xs)

quoted_nil : (escaped : Bool) → quoted escaped [] ≡ None
quoted_nil true = refl
quoted_nil false = refl

-- The line's end leaves the quotes open.
pub quoted_end : (xs w : List ℕ) (i : ℕ) (escaped : Bool) (whole : QuotedFront) → length xs ≤ i → with_bytes w (quoted escaped (drop i xs)) ≡ whole → None ≡ whole
quoted_end xs w i escaped whole le same =
    ap (with_bytes w) (sym (quoted_nil escaped)) ∙ ap (λ l. with_bytes w (quoted escaped l)) (sym (drop_all i xs le)) ∙ same

-- The same text and the same state.
pub quoted_same : (xs w v : List ℕ) (n : ℕ) (e d : Bool) (whole : QuotedFront) → v ≡ w → d ≡ e → with_bytes w (quoted e (drop n xs)) ≡ whole → with_bytes v (quoted d (drop n xs)) ≡ whole
quoted_same xs w v n e d whole p q same = ap (λ l. with_bytes l (quoted d (drop n xs))) p ∙ ap (λ s. with_bytes w (quoted s (drop n xs))) q ∙ same

-- One more byte of a text that has been read up to there.
module _ (xs w : List ℕ) (i : ℕ) (less : i < length xs) (escaped : Bool) (whole : QuotedFront) (same : with_bytes w (quoted escaped (drop i xs)) ≡ whole) where
  from_here : (e : Bool) → escaped ≡ e → with_bytes w (quoted e (get_or xs i 0 ∷ drop (i + 1) xs)) ≡ whole
  from_here e is = ap (λ l. with_bytes w (quoted e l)) (sym (drop_more xs i 0 less)) ∙ ap (λ s. with_bytes w (quoted s (drop i xs))) (sym is) ∙ same

  -- The effect of a byte that is not escaped, by its kind.
  step : Bool → Bool → QuotedFront
  step quote backslash = cond quote (Some ([], drop (i + 1) xs)) (cond backslash (quoted true (drop (i + 1) xs)) (with_bytes (get_or xs i 0 ∷ []) (quoted false (drop (i + 1) xs))))

  by_case : (q k : Bool) → escaped ≡ false → is_quote (get_or xs i 0) ≡ q → is_backslash (get_or xs i 0) ≡ k → with_bytes w (step q k) ≡ whole
  unfolding step
  by_case q k is h j =
      ap (λ v. with_bytes w (step v k)) (sym h) ∙ ap (λ v. with_bytes w (step (is_quote (get_or xs i 0)) v)) (sym j) ∙ from_here false is

  pub quoted_escape : escaped ≡ true → with_bytes (w ++ escape_of (get_or xs i 0)) (quoted false (drop (i + 1) xs)) ≡ whole
  quoted_escape is = with_bytes-append w (escape_of (get_or xs i 0)) (quoted false (drop (i + 1) xs)) ∙ from_here true is

  pub quoted_close : escaped ≡ false → is_quote (get_or xs i 0) ≡ true → Some (w, drop (i + 1) xs) ≡ whole
  unfolding step
  quoted_close is h = sym (with_bytes-some w (drop (i + 1) xs)) ∙ by_case true (is_backslash (get_or xs i 0)) is h refl

  pub quoted_backslash : escaped ≡ false → is_quote (get_or xs i 0) ≡ false → is_backslash (get_or xs i 0) ≡ true → with_bytes w (quoted true (drop (i + 1) xs)) ≡ whole
  unfolding step
  quoted_backslash is h k = by_case false true is h k

  pub quoted_more : escaped ≡ false → is_quote (get_or xs i 0) ≡ false → is_backslash (get_or xs i 0) ≡ false → with_bytes (w ++ get_or xs i 0 ∷ []) (quoted false (drop (i + 1) xs)) ≡ whole
  unfolding step
  quoted_more is h k = with_bytes-append w (get_or xs i 0 ∷ []) (quoted false (drop (i + 1) xs)) ∙ by_case false false is h k

-- ## The rest after a closing quote

-- The rest has at most n bytes.
abbrev pub IsRestWithin : QuotedFront → ℕ → Type 0
IsRestWithin None n = Unit {0}
IsRestWithin (Some (text, rest)) n = length rest ≤ n

within_more : (front : QuotedFront) (n m : ℕ) → n ≤ m → IsRestWithin front n → IsRestWithin front m
within_more None n m le h = tt
within_more (Some (text, rest)) n m le h = omega arith

within_bytes : (bytes : List ℕ) (front : QuotedFront) (n m : ℕ) → n ≤ m → IsRestWithin front n → IsRestWithin (with_bytes bytes front) m
within_bytes bytes None n m le h = tt
within_bytes bytes (Some (text, rest)) n m le h = omega arith

-- It is at most as long as the bytes after the opening quote.
pub quoted_within : (escaped : Bool) (line : List ℕ) → IsRestWithin (quoted escaped line) (length line)
quoted_within true [] = tt
quoted_within false [] = tt
quoted_within true (b ∷ bs) = within_bytes (escape_of b) (quoted false bs) (length bs) (suc (length bs)) (omega arith) (quoted_within false bs)
quoted_within false (b ∷ bs) =
    elim (is_quote b) as (λ v. IsRestWithin (cond v (Some ([], bs)) (cond (is_backslash b) (quoted true bs) (with_bytes (b ∷ []) (quoted false bs)))) (suc (length bs))) [
      | true ↦ omega arith
      | false ↦ elim (is_backslash b) as (λ v. IsRestWithin (cond v (quoted true bs) (with_bytes (b ∷ []) (quoted false bs))) (suc (length bs))) [
        | true ↦ within_more (quoted true bs) (length bs) (suc (length bs)) (omega arith) (quoted_within true bs)
        | false ↦ within_bytes (b ∷ []) (quoted false bs) (length bs) (suc (length bs)) (omega arith) (quoted_within false bs)
      ]
    ]
