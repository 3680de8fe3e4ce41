-- Words of a line that is read from its beginning.
use Rattle.std.proofs.Common.{◌≡◌, ℕ, suc, zero, ◌<◌, ◌≤◌, true, false, cond, List, [], ◌∷◌, ◌++◌, length, min, refl, ap, sym, ◌∙◌, arith, subst, Option, None, Some}
use Rattle.std.specs.List.{list_any}
use Rattle.line_words.specs.Blanks.{is_blank, after_blanks, word_here, behind_word}
use Rattle.line_words.specs.Quotes.{is_quote, QuotedFront, quoted}
use Rattle.line_words.proofs.BlankLaws.{behind_short}
use Rattle.line_words.proofs.QuoteLaws.{IsRestWithin, quoted_within}
use Rattle.command_lines.specs.CommandWords.{Front, ended, broken, word, with_word, bare_word, is_end, quoted_word, front_here, next_word, after_front, words_within, words_of}

-- The rest after this front has at most this length.
abbrev pub Leaves : Front → ℕ → Type 0
Leaves ended n = Unit {0}
Leaves broken n = Unit {0}
Leaves (word bytes rest) n = length rest ≤ n

leaves_more : (front : Front) (n m : ℕ) → n ≤ m → Leaves front n → Leaves front m
leaves_more ended n m le h = tt
leaves_more broken n m le h = tt
leaves_more (word bytes rest) n m le h = omega arith

quoted_leaves : (front : QuotedFront) (n : ℕ) → IsRestWithin front n → Leaves (quoted_word front) n
quoted_leaves None n h = tt
quoted_leaves (Some (bytes, rest)) n h = elim (is_end rest) as (λ v. Leaves (cond v (word bytes rest) broken) n) [ true ↦ h | false ↦ tt ]

bare_leaves : (line : List ℕ) (n : ℕ) → length (behind_word line) ≤ n → Leaves (bare_word line) n
bare_leaves line n h = elim (list_any is_quote (word_here line)) as (λ v. Leaves (cond v broken (word (word_here line) (behind_word line))) n) [ true ↦ tt | false ↦ h ]

-- The words with more of them in front.
abbrev pub with_words : List (List ℕ) → Option (List (List ℕ)) → Option (List (List ℕ))
with_words [] words = words
with_words (w ∷ ws) words = with_word w (with_words ws words)

pub with_words-append : (ws vs : List (List ℕ)) (words : Option (List (List ℕ))) → with_words (ws ++ vs) words ≡ with_words ws (with_words vs words)
with_words-append [] vs words = refl
with_words-append (w ∷ ws) vs words = ap (with_word w) (with_words-append ws vs words)

pub with_words-none : (ws : List (List ℕ)) → with_words ws None ≡ None
with_words-none [] = refl
with_words-none (w ∷ ws) = ap (with_word w) (with_words-none ws)

pub with_words-some : (ws : List (List ℕ)) → with_words ws (Some []) ≡ Some ws
with_words-some [] = refl
with_words-some (w ∷ ws) = ap (with_word w) (with_words-some ws)

-- A word takes at least one byte.
next_leaves : (line : List ℕ) (n : ℕ) → length line ≤ suc n → Leaves (next_word line) n
next_leaves [] n le = tt
next_leaves (b ∷ bs) n le =
    let less : length bs ≤ n = omega arith in
    (elim (is_blank b) as (λ v. is_blank b ≡ v → Leaves (front_here (cond v (after_blanks bs) (b ∷ bs))) n) [
      | true ↦ λ h. next_leaves bs n (omega arith)
      | false ↦ λ h. here b bs n less h
    ]) refl
  where
    here : (b : ℕ) (bs : List ℕ) (n : ℕ) → length bs ≤ n → is_blank b ≡ false → Leaves (front_here (b ∷ bs)) n
    here b bs n less h =
        let short = behind_short bs in
        let behind : length (behind_word (b ∷ bs)) ≤ n = subst (λ v. length (cond v (b ∷ bs) (behind_word bs)) ≤ n) (sym h) (omega arith) in
        elim (is_quote b) as (λ v. Leaves (cond v (quoted_word (quoted false bs)) (bare_word (b ∷ bs))) n) [
          | true ↦ leaves_more (quoted_word (quoted false bs)) (length bs) n less (quoted_leaves (quoted false bs) (length bs) (quoted_within false bs))
          | false ↦ bare_leaves (b ∷ bs) n behind
        ]

-- Two readings that agree on each line that is at most as long.
same_front : (f g : List ℕ → Option (List (List ℕ))) (front : Front) (n : ℕ) → Leaves front n → ((t : List ℕ) → length t ≤ n → f t ≡ g t) → after_front f front ≡ after_front g front
same_front f g ended n h same = refl
same_front f g broken n h same = refl
same_front f g (word bytes rest) n h same = ap (with_word bytes) (same rest h)

-- A greater count of words changes nothing.
same_within : (m n : ℕ) (t : List ℕ) → length t ≤ m → length t ≤ n → words_within m t ≡ words_within n t
unfolding words_within
same_within zero zero t h k = refl
same_within zero (suc n) [] h k = refl
same_within zero (suc n) (b ∷ bs) h k = absurd (omega arith)
same_within (suc m) zero [] h k = refl
same_within (suc m) zero (b ∷ bs) h k = absurd (omega arith)
same_within (suc m) (suc n) t h k = same_front (words_within m) (words_within n) (next_word t) (least m n) (next_leaves t (least m n) (short m n h k)) (λ s l. same_within m n s (low m n l) (high m n l))
  where
    least : ℕ → ℕ → ℕ
    least m n = min m n

    short : (m n : ℕ) → length t ≤ suc m → length t ≤ suc n → length t ≤ suc (min m n)
    short m n h k = omega arith

    low : {s : ℕ} (m n : ℕ) → s ≤ min m n → s ≤ m
    low m n l = omega arith

    high : {s : ℕ} (m n : ℕ) → s ≤ min m n → s ≤ n
    high m n l = omega arith

-- The next word of a line, and the words of the rest.
pub words_of-line : (t : List ℕ) → words_of t ≡ after_front words_of (next_word t)
unfolding words_of words_within
words_of-line [] = refl
words_of-line (b ∷ bs) =
    same_front (words_within (length bs)) words_of (next_word (b ∷ bs)) (length bs) (next_leaves (b ∷ bs) (length bs) (omega arith)) (λ t l. same_within (length bs) (length t) t l (omega arith))

-- After a word was taken, less is left.
pub rest_shorter : (line bytes rest : List ℕ) → word bytes rest ≡ next_word line → length rest < length line
rest_shorter [] bytes rest e = cc
rest_shorter (b ∷ bs) bytes rest e = let h : Leaves (word bytes rest) (length bs) = subst (λ f. Leaves f (length bs)) (sym e) (next_leaves (b ∷ bs) (length bs) (omega arith)) in omega arith

-- ## The loop over the words of a line

module _ (line rest : List ℕ) (ws : List (List ℕ)) (front : Front) (next : front ≡ next_word rest) (same : with_words ws (words_of rest) ≡ words_of line) where
  read : (f : Front) → front ≡ f → with_words ws (after_front words_of f) ≡ words_of line
  read f is = ap (λ g. with_words ws (after_front words_of g)) (sym is ∙ next) ∙ ap (with_words ws) (sym (words_of-line rest)) ∙ same

  pub words_end : front ≡ ended → Some ws ≡ words_of line
  words_end is = sym (with_words-some ws) ∙ read ended is

  pub words_break : front ≡ broken → None ≡ words_of line
  words_break is = sym (with_words-none ws) ∙ read broken is

  pub words_more : (bytes behind : List ℕ) → front ≡ word bytes behind → with_words (ws ++ bytes ∷ []) (words_of behind) ≡ words_of line
  words_more bytes behind is = with_words-append ws (bytes ∷ []) (words_of behind) ∙ read (word bytes behind) is
