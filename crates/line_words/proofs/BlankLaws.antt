-- Blanks and words of a line.
use Rattle.std.proofs.Common.{◌≡◌, ℕ, suc, ◌+◌, ◌<◌, ◌≤◌, Bool, true, false, ◌&&◌, cond, List, [], ◌∷◌, ◌++◌, length, get_or, take, drop, refl, ap, sym, ◌∙◌, arith}
use Rattle.std.proofs.lemmas.Bool.{and_right}
use Rattle.std.proofs.lemmas.List.{append_assoc, append-nil, take_more, drop_more, take_all, drop_all}
use Rattle.std.proofs.lemmas.List.Folds.{list_all-append}
use Rattle.line_words.specs.Blanks.{is_blank, word_here, behind_word, is_nothing, without_end}

-- One more byte at the end of a line.
nothing_push : (xs : List ℕ) (b : ℕ) → is_nothing (xs ++ b ∷ []) ≡ (is_nothing xs && is_blank b)
nothing_push [] b = grind arith
nothing_push (x ∷ xs) b = list_all-append is_blank (x ∷ xs) (b ∷ []) ∙ and_same (is_nothing (x ∷ xs)) (is_blank b)
  where
    and_same : (p q : Bool) → (p && (q && true)) ≡ (p && q)
    and_same true true = refl
    and_same true false = refl
    and_same false q = refl

-- A blank at the end is dropped.
pub blank_end : (xs : List ℕ) (b : ℕ) → is_blank b ≡ true → without_end (xs ++ b ∷ []) ≡ without_end xs
blank_end [] b h = ap (λ v. cond (v && true) [] (b ∷ [])) h
blank_end (x ∷ xs) b h =
    ap (λ v. cond v [] (x ∷ without_end (xs ++ b ∷ []))) (nothing_push (x ∷ xs) b ∙ ap (λ v. is_nothing (x ∷ xs) && v) h ∙ and_true (is_nothing (x ∷ xs)))
    ∙ ap (λ l. cond (is_nothing (x ∷ xs)) [] (x ∷ l)) (blank_end xs b h)
  where
    and_true : (p : Bool) → (p && true) ≡ p
    and_true true = refl
    and_true false = refl

-- Any other byte remains.
pub other_end : (xs : List ℕ) (b : ℕ) → is_blank b ≡ false → without_end (xs ++ b ∷ []) ≡ xs ++ b ∷ []
other_end [] b h = ap (λ v. cond (v && true) [] (b ∷ [])) h
other_end (x ∷ xs) b h =
    ap (λ v. cond v [] (x ∷ without_end (xs ++ b ∷ []))) (nothing_push (x ∷ xs) b ∙ and_right (is_nothing (x ∷ xs)) (is_blank b) h)
    ∙ ap (λ l. x ∷ l) (other_end xs b h)

-- A word that is read up to byte i.
module _ (xs : List ℕ) (i : ℕ) (less : i < length xs) where
  pub word_ends : is_blank (get_or xs i 0) ≡ true → take i xs ++ word_here (drop i xs) ≡ word_here xs → take i xs ≡ word_here xs
  word_ends blank same =
      sym (append-nil (take i xs)) ∙ ap (λ l. take i xs ++ l) (sym (ap word_here (drop_more xs i 0 less) ∙ ap (λ v. cond v [] (get_or xs i 0 ∷ word_here (drop (i + 1) xs))) blank)) ∙ same

  pub word_more : is_blank (get_or xs i 0) ≡ false → take i xs ++ word_here (drop i xs) ≡ word_here xs → take (i + 1) xs ++ word_here (drop (i + 1) xs) ≡ word_here xs
  word_more other same =
      ap (λ l. l ++ word_here (drop (i + 1) xs)) (take_more xs i 0 less)
      ∙ append_assoc (take i xs) (get_or xs i 0 ∷ []) (word_here (drop (i + 1) xs))
      ∙ ap (λ l. take i xs ++ l) (sym (ap word_here (drop_more xs i 0 less) ∙ ap (λ v. cond v [] (get_or xs i 0 ∷ word_here (drop (i + 1) xs))) other))
      ∙ same

  pub rest_begins : is_blank (get_or xs i 0) ≡ true → behind_word (drop i xs) ≡ behind_word xs → drop i xs ≡ behind_word xs
  rest_begins blank same =
      drop_more xs i 0 less ∙ sym (ap behind_word (drop_more xs i 0 less) ∙ ap (λ v. cond v (get_or xs i 0 ∷ drop (i + 1) xs) (behind_word (drop (i + 1) xs))) blank) ∙ same

  pub rest_more : is_blank (get_or xs i 0) ≡ false → behind_word (drop i xs) ≡ behind_word xs → behind_word (drop (i + 1) xs) ≡ behind_word xs
  rest_more other same =
      sym (ap behind_word (drop_more xs i 0 less) ∙ ap (λ v. cond v (get_or xs i 0 ∷ drop (i + 1) xs) (behind_word (drop (i + 1) xs))) other) ∙ same

pub word_whole : (xs : List ℕ) (i : ℕ) → length xs ≤ i → take i xs ++ word_here (drop i xs) ≡ word_here xs → xs ≡ word_here xs
word_whole xs i le same = sym (append-nil xs) ∙ ap (λ l. l ++ []) (sym (take_all i xs le)) ∙ ap (λ l. take i xs ++ word_here l) (sym (drop_all i xs le)) ∙ same

pub rest_empty : (xs : List ℕ) (i : ℕ) → length xs ≤ i → behind_word (drop i xs) ≡ behind_word xs → [] ≡ behind_word xs
rest_empty xs i le same = ap behind_word (sym (drop_all i xs le)) ∙ same

-- The rest after a word is at most as long as the line.
pub behind_short : (line : List ℕ) → length (behind_word line) ≤ length line
behind_short [] = omega arith
behind_short (b ∷ bs) =
    let short = behind_short bs in
    elim (is_blank b) as (λ v. length (cond v (b ∷ bs) (behind_word bs)) ≤ suc (length bs)) [ true ↦ omega arith | false ↦ omega arith ]
