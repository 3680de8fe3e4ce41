-- Lines of a text that is joined from parts.
use Rattle.std.proofs.Common.{◌≡◌, ℕ, suc, zero, ◌+◌, ◌-◌, ◌<◌, ◌≤◌, Bool, true, false, cond, List, [], ◌∷◌, ◌++◌, length, get_or, take, drop, refl, ap, sym, ◌∙◌, eqb, arith, add-one}
use Rattle.std.proofs.lemmas.List.{take-append-drop, take-take, drop-take, drop-drop, get_or-drop, length-drop}
use Rattle.std.proofs.lemmas.Bool.{false≢true}
use Rattle.command_lines.specs.TextLines.{has_lf, first_line, after_line}
use Rattle.command_lines.specs.ReaderSteps.{IsAt}

pub has_lf-append : (xs ys : List ℕ) → has_lf (xs ++ ys) ≡ cond (has_lf xs) true (has_lf ys)
has_lf-append [] ys = refl
has_lf-append (x ∷ xs) ys =
    elim (eqb x 10) as (λ v. cond v true (has_lf (xs ++ ys)) ≡ cond (cond v true (has_lf xs)) true (has_lf ys)) [ true ↦ refl | false ↦ has_lf-append xs ys ]

pub has_lf_none : (xs ys : List ℕ) → has_lf xs ≡ false → has_lf ys ≡ false → has_lf (xs ++ ys) ≡ false
has_lf_none xs ys h k = has_lf-append xs ys ∙ ap (λ v. cond v true (has_lf ys)) h ∙ k

pub first_line_whole : (xs ys : List ℕ) → has_lf xs ≡ true → first_line (xs ++ ys) ≡ first_line xs
first_line_whole [] ys h = absurd (false≢true h)
first_line_whole (x ∷ xs) ys h =
    (elim (eqb x 10) as (λ v. cond v true (has_lf xs) ≡ true → cond v [] (x ∷ first_line (xs ++ ys)) ≡ cond v [] (x ∷ first_line xs)) [ true ↦ λ k. refl | false ↦ λ k. ap (λ l. x ∷ l) (first_line_whole xs ys k) ]) h

pub after_line_whole : (xs ys : List ℕ) → has_lf xs ≡ true → after_line (xs ++ ys) ≡ after_line xs ++ ys
after_line_whole [] ys h = absurd (false≢true h)
after_line_whole (x ∷ xs) ys h =
    (elim (eqb x 10) as (λ v. cond v true (has_lf xs) ≡ true → cond v (xs ++ ys) (after_line (xs ++ ys)) ≡ cond v xs (after_line xs) ++ ys) [ true ↦ λ k. refl | false ↦ λ k. after_line_whole xs ys k ]) h

pub first_line_part : (xs ys : List ℕ) → has_lf xs ≡ false → first_line (xs ++ ys) ≡ xs ++ first_line ys
first_line_part [] ys h = refl
first_line_part (x ∷ xs) ys h =
    (elim (eqb x 10) as (λ v. cond v true (has_lf xs) ≡ false → cond v [] (x ∷ first_line (xs ++ ys)) ≡ x ∷ (xs ++ first_line ys)) [ true ↦ λ k. absurd (false≢true (sym k)) | false ↦ λ k. ap (λ l. x ∷ l) (first_line_part xs ys k) ]) h

pub after_line_part : (xs ys : List ℕ) → has_lf xs ≡ false → after_line (xs ++ ys) ≡ after_line ys
after_line_part [] ys h = refl
after_line_part (x ∷ xs) ys h =
    (elim (eqb x 10) as (λ v. cond v true (has_lf xs) ≡ false → cond v (xs ++ ys) (after_line (xs ++ ys)) ≡ after_line ys) [ true ↦ λ k. absurd (false≢true (sym k)) | false ↦ λ k. after_line_part xs ys k ]) h

pub place : (xs : List ℕ) (n : ℕ) → n < length xs → has_lf (take n xs) ≡ false → get_or xs n 0 ≡ 10 → IsAt xs n
place [] n h k e = absurd (omega arith)
place (x ∷ xs) zero h k e = let b : eqb x 10 ≡ true = rw e refl in record {
  there = ap (λ v. cond v true (has_lf xs)) b;
  line = ap (λ v. cond v [] (x ∷ first_line xs)) b;
  rest = ap (λ v. cond v xs (after_line xs)) b;
}
place (x ∷ xs) (suc n) h k e =
    let less : n < length xs = omega arith in
    let r = (elim (eqb x 10) as (λ v. cond v true (has_lf (take n xs)) ≡ false → (cond v true (has_lf xs) ≡ true) × (cond v [] (x ∷ first_line xs) ≡ x ∷ take n xs) × (cond v xs (after_line xs) ≡ drop (suc n) xs))
    [ true ↦ λ l. absurd (false≢true (sym l)) | false ↦ λ l. let at = place xs n less l e in (at.there, ap (λ l. x ∷ l) at.line, at.rest ∙ ap (λ m. drop m xs) (add-one n)) ]) k in
    record { there = r.0; line = r.1; rest = rw add-one r.2 }

-- No rest of a text is longer than the text, and a nonempty text has a shorter rest.
pub after_line_short : (xs : List ℕ) → length (after_line xs) ≤ length xs
after_line_short [] = omega arith
after_line_short (x ∷ xs) = elim (eqb x 10) as (λ v. length (cond v xs (after_line xs)) ≤ suc (length xs)) [ true ↦ omega arith | false ↦ let h = after_line_short xs in omega arith ]

pub after_line_shorter : (x : ℕ) (xs : List ℕ) → length (after_line (x ∷ xs)) ≤ length xs
after_line_shorter x xs = elim (eqb x 10) as (λ v. length (cond v xs (after_line xs)) ≤ length xs) [ true ↦ omega arith | false ↦ after_line_short xs ]

pub after_line_none : (xs : List ℕ) → has_lf xs ≡ false → after_line xs ≡ []
after_line_none [] h = refl
after_line_none (x ∷ xs) h =
    (elim (eqb x 10) as (λ v. cond v true (has_lf xs) ≡ false → cond v xs (after_line xs) ≡ []) [ true ↦ λ k. absurd (false≢true (sym k)) | false ↦ λ k. after_line_none xs k ]) h

pub first_line_none : (xs : List ℕ) → has_lf xs ≡ false → first_line xs ≡ xs
first_line_none [] h = refl
first_line_none (x ∷ xs) h =
    (elim (eqb x 10) as (λ v. cond v true (has_lf xs) ≡ false → cond v [] (x ∷ first_line xs) ≡ x ∷ xs) [ true ↦ λ k. absurd (false≢true (sym k)) | false ↦ λ k. ap (λ l. x ∷ l) (first_line_none xs k) ]) h

take_more_than : (m i : ℕ) (ys : List ℕ) → take (m + i) ys ≡ take m ys ++ take i (drop m ys)
take_more_than m i ys = sym (take-append-drop m (take (m + i) ys)) ∙ ap (λ l. l ++ drop m (take (m + i) ys)) (take-take m (m + i) ys (omega arith)) ∙ ap (λ l. take m ys ++ l) (drop-take m i ys)

-- A search that continued from k.
pub scan_more : (xs : List ℕ) (s k i : ℕ) → s ≤ k → has_lf (take (k - s) (drop s xs)) ≡ false → has_lf (take i (drop k xs)) ≡ false → has_lf (take (k + i - s) (drop s xs)) ≡ false
scan_more xs s k i le h g =
    let m : k + i - s ≡ (k - s) + i = omega arith in
    let d : drop (k - s) (drop s xs) ≡ drop k xs = drop-drop (k - s) s xs ∙ (let e : s + (k - s) ≡ k = omega arith in ap (λ n. drop n xs) e) in
    ap (λ n. has_lf (take n (drop s xs))) m
    ∙ ap has_lf (take_more_than (k - s) i (drop s xs) ∙ ap (λ l. take (k - s) (drop s xs) ++ take i l) d)
    ∙ has_lf_none (take (k - s) (drop s xs)) (take i (drop k xs)) h g

-- A search that continued from k to the end.
pub scan_all : (xs : List ℕ) (s k : ℕ) → s ≤ k → has_lf (take (k - s) (drop s xs)) ≡ false → has_lf (drop k xs) ≡ false → has_lf (drop s xs) ≡ false
scan_all xs s k le h g =
    let d : drop (k - s) (drop s xs) ≡ drop k xs = drop-drop (k - s) s xs ∙ (let e : s + (k - s) ≡ k = omega arith in ap (λ n. drop n xs) e) in
    ap has_lf (sym (take-append-drop (k - s) (drop s xs)) ∙ ap (λ l. take (k - s) (drop s xs) ++ l) d)
    ∙ has_lf_none (take (k - s) (drop s xs)) (drop k xs) h g

-- A search remains valid after bytes were dropped from the front.
pub scan_behind : (xs : List ℕ) (s k n : ℕ) → s + n ≤ k → has_lf (take (k - s) (drop s xs)) ≡ false → has_lf (take (k - (s + n)) (drop (s + n) xs)) ≡ false
scan_behind xs s k n le h =
    let m : k - s ≡ n + (k - (s + n)) = omega arith in
    let d : drop n (drop s xs) ≡ drop (s + n) xs = drop-drop n s xs in
    let j : has_lf (take n (drop s xs) ++ take (k - (s + n)) (drop (s + n) xs)) ≡ false =
    ap (λ l. has_lf (take n (drop s xs) ++ take (k - (s + n)) l)) (sym d) ∙ ap has_lf (sym (take_more_than n (k - (s + n)) (drop s xs))) ∙ ap (λ q. has_lf (take q (drop s xs))) (sym m) ∙ h in
    behind (has_lf (take n (drop s xs))) (has_lf (take (k - (s + n)) (drop (s + n) xs))) (sym (has_lf-append (take n (drop s xs)) _) ∙ j)
  where
    behind : (a b : Bool) → cond a true b ≡ false → b ≡ false
    behind true b h = absurd (false≢true (sym h))
    behind false b h = h

pub more_scanned : (xs ys : List ℕ) (s k i : ℕ) → ys ≡ drop k xs → s ≤ k → has_lf (take (k - s) (drop s xs)) ≡ false → has_lf (take i ys) ≡ false → has_lf (take (k + i - s) (drop s xs)) ≡ false
more_scanned xs ys s k i e le h g = scan_more xs s k i le h (ap (λ l. has_lf (take i l)) (sym e) ∙ g)

pub all_scanned : (xs ys : List ℕ) (s k : ℕ) → ys ≡ drop k xs → s ≤ k → has_lf (take (k - s) (drop s xs)) ≡ false → has_lf ys ≡ false → has_lf (drop s xs) ≡ false
all_scanned xs ys s k e le h g = scan_all xs s k le h (ap has_lf (sym e) ∙ g)

pub place_scanned : (xs ys : List ℕ) (s k i : ℕ) → ys ≡ drop k xs → s ≤ k → has_lf (take (k - s) (drop s xs)) ≡ false → i < length ys → has_lf (take i ys) ≡ false → get_or ys i 0 ≡ 10 → IsAt (drop s xs) (k + i - s)
place_scanned xs ys s k i e le h less g there =
    let long : length ys ≡ length xs - k = ap length e ∙ length-drop k xs in
    let at : get_or (drop s xs) (k + i - s) 0 ≡ 10 =
    get_or-drop s xs (k + i - s) 0 ∙ (let m : s + (k + i - s) ≡ k + i = omega arith in ap (λ n. get_or xs n 0) m) ∙ sym (get_or-drop k xs i 0) ∙ ap (λ l. get_or l i 0) (sym e) ∙ there in
    place (drop s xs) (k + i - s) (let d = length-drop s xs in omega arith) (more_scanned xs ys s k i e le h g) at

pub no_lf : (b : ℕ) → (b ≡ 10 → ⊥) → has_lf (b ∷ []) ≡ false
no_lf b h = let e : eqb b 10 ≡ false = grind (arith, h) in ap (λ v. cond v true false) e

-- A front of a text without a line feed has none.
pub no_lf_front : (n : ℕ) (xs : List ℕ) → has_lf xs ≡ false → has_lf (take n xs) ≡ false
no_lf_front n xs h = front (has_lf (take n xs)) (has_lf (drop n xs)) (sym (has_lf-append (take n xs) (drop n xs)) ∙ ap has_lf (take-append-drop n xs) ∙ h)
  where
    front : (a b : Bool) → cond a true b ≡ false → a ≡ false
    front true b h = h
    front false b h = refl
