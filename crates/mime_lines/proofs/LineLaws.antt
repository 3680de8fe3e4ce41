-- The lines of a text, and the lines that backslashes join.
use Rattle.std.proofs.Common.{◌≡◌, ℕ, suc, ◌+◌, ◌<◌, true, false, ◌&&◌, cond, List, [], ◌∷◌, ◌++◌, length, get_or, take, drop, eqb, ◌-◌, refl, ap, sym, ◌∙◌, arith}
use Rattle.std.proofs.lemmas.Bool.{and_right}
use Rattle.std.proofs.lemmas.List.{take-append-drop, drop_more, length-take, get_or-take}
use Rattle.mime_lines.specs.JoinedLines.{without_crs, with_byte, cut, lines_of, is_continued, without_last, without_cr}

-- No byte is a line feed.
pub data HasNoLf : List ℕ → Type 0 where
  no_bytes : HasNoLf []
  one_more : {b : ℕ} {bs : List ℕ} → eqb b 10 ≡ false → HasNoLf bs → HasNoLf (b ∷ bs)

pub no_lf : (xs : List ℕ) → ((k : ℕ) → k < length xs → eqb (get_or xs k 0) 10 ≡ false) → HasNoLf xs
no_lf [] h = no_bytes
no_lf (x ∷ xs) h = one_more (h 0 (omega arith)) (no_lf xs (λ k l. h (suc k) (omega arith)))

-- A line feed ends the first line.
pub first_line : (front rest : List ℕ) → HasNoLf front → lines_of (front ++ 10 ∷ rest) ≡ without_cr front ∷ lines_of rest
first_line [] rest no_bytes = refl
first_line (b ∷ []) rest (one_more h no_bytes) =
    (elim (eqb b 13) as (λ v. cut (cond (v && true) (10 ∷ without_crs rest) (b ∷ 10 ∷ without_crs rest)) ≡ cond v [] (b ∷ []) ∷ lines_of rest) [
      | true ↦ refl
      | false ↦ ap (λ v. cond v ([] ∷ [] ∷ lines_of rest) ((b ∷ []) ∷ lines_of rest)) h
    ])
first_line (b ∷ c ∷ bs) rest (one_more h (one_more k others)) =
    ap cut (ap (λ v. cond v (without_crs (c ∷ bs ++ 10 ∷ rest)) (b ∷ without_crs (c ∷ bs ++ 10 ∷ rest))) (and_right (eqb b 13) (eqb c 10) k))
    ∙ ap (λ v. cond v ([] ∷ lines_of (c ∷ bs ++ 10 ∷ rest)) (with_byte b (lines_of (c ∷ bs ++ 10 ∷ rest)))) h
    ∙ ap (with_byte b) (first_line (c ∷ bs) rest (one_more k others))

-- The last line, without a line feed.
pub last_line : (b : ℕ) (bs : List ℕ) → HasNoLf (b ∷ bs) → lines_of (b ∷ bs) ≡ (b ∷ bs) ∷ []
last_line b [] (one_more h no_bytes) =
    ap cut (ap (λ v. cond v [] (b ∷ [])) (and_right (eqb b 13) false refl)) ∙ ap (λ v. cond v ([] ∷ []) ((b ∷ []) ∷ [])) h
last_line b (c ∷ bs) (one_more h (one_more k others)) =
    ap cut (ap (λ v. cond v (without_crs (c ∷ bs)) (b ∷ without_crs (c ∷ bs))) (and_right (eqb b 13) (eqb c 10) k))
    ∙ ap (λ v. cond v ([] ∷ lines_of (c ∷ bs)) (with_byte b (lines_of (c ∷ bs)))) h
    ∙ ap (with_byte b) (last_line c bs (one_more k others))

-- The last byte of a line.
pub cr_push : (xs : List ℕ) (b : ℕ) → without_cr (xs ++ b ∷ []) ≡ cond (eqb b 13) xs (xs ++ b ∷ [])
cr_push [] b = refl
cr_push (x ∷ []) b = elim (eqb b 13) as (λ v. x ∷ cond v [] (b ∷ []) ≡ cond v (x ∷ []) (x ∷ b ∷ [])) [ true ↦ refl | false ↦ refl ]
cr_push (x ∷ y ∷ ys) b =
    ap (λ l. x ∷ l) (cr_push (y ∷ ys) b)
    ∙ elim (eqb b 13) as (λ v. x ∷ cond v (y ∷ ys) (y ∷ ys ++ b ∷ []) ≡ cond v (x ∷ y ∷ ys) (x ∷ y ∷ ys ++ b ∷ [])) [ true ↦ refl | false ↦ refl ]

pub continued_push : (xs : List ℕ) (b : ℕ) → is_continued (xs ++ b ∷ []) ≡ eqb b 92
continued_push [] b = refl
continued_push (x ∷ []) b = refl
continued_push (x ∷ y ∷ ys) b = continued_push (y ∷ ys) b

pub without_last_push : (xs : List ℕ) (b : ℕ) → without_last (xs ++ b ∷ []) ≡ xs
without_last_push [] b = refl
without_last_push (x ∷ []) b = refl
without_last_push (x ∷ y ∷ ys) b = ap (λ l. x ∷ l) (without_last_push (y ∷ ys) b)

pub take_last : (xs : List ℕ) → take (length xs - 1) xs ≡ without_last xs
take_last [] = refl
take_last (x ∷ []) = refl
take_last (x ∷ y ∷ ys) =
    let n : suc (suc (length ys)) - 1 ≡ suc (length ys) = omega arith in
    let m : suc (length ys) - 1 ≡ length ys = omega arith in
    ap (λ k. take k (x ∷ y ∷ ys)) n ∙ ap (λ l. x ∷ l) (ap (λ k. take k (y ∷ ys)) (sym m) ∙ take_last (y ∷ ys))

-- A line feed at i, and none before it.
pub line_at : (text : List ℕ) (i : ℕ) → i < length text → get_or text i 0 ≡ 10 → ((k : ℕ) → k < i → eqb (get_or text k 0) 10 ≡ false)
    → lines_of text ≡ without_cr (take i text) ∷ lines_of (drop (i + 1) text)
line_at text i less is before =
    ap lines_of (sym (take-append-drop i text) ∙ ap (λ l. take i text ++ l) (drop_more text i 0 less ∙ ap (λ b. b ∷ drop (i + 1) text) is))
    ∙ first_line (take i text) (drop (i + 1) text) (no_lf (take i text) (λ k l. let h : k < i = omega (arith, l, length-take i text) in ap (λ b. eqb b 10) (get_or-take i text k 0 h) ∙ before k h))

-- No line feed.
pub line_alone : (text : List ℕ) → 0 < length text → ((k : ℕ) → k < length text → eqb (get_or text k 0) 10 ≡ false) → lines_of text ≡ text ∷ []
line_alone [] less none = absurd (omega arith)
line_alone (b ∷ bs) less none = last_line b bs (no_lf (b ∷ bs) none)
