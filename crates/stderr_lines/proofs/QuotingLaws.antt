-- Words and texts with quotes, read byte by byte.
use Rattle.std.proofs.Common.{◌≡◌, ◌&&◌, ℕ, suc, ◌+◌, ◌<◌, ◌≤◌, Bool, true, false, cond, List, [], ◌∷◌, ◌++◌, length, get_or, take, drop, refl, ap, sym, ◌∙◌, arith, subst}
use Rattle.std.proofs.lemmas.Bool.{and_parts, and_from}
use Rattle.std.proofs.lemmas.List.{append_assoc, append-nil, take_all, take_more, drop_more, drop_all}
use Rattle.std.specs.List.{list_all, onto_first}
use Rattle.spool_types.specs.Values.{is_printable}
use Rattle.line_words.specs.declared.quoting.Quoting.{Quoting}
use Rattle.stderr_lines.specs.EffectDrafts.{IsLineText}
use Rattle.line_words.specs.Quoting.{next, keeps, is_cut, said, pieces}
use Rattle.line_words.specs.declared.quoting.Quoting.TheVariants.{Bare}
use Rattle.stderr_lines.proofs.PieceLaws.{onto_front, onto_front-push, onto_front-end, onto_front_none}

-- ## The first word

pub words_begin : (p : Quoting) (xs : List ℕ) → onto_front [] (pieces p xs) ≡ pieces p xs
words_begin p [] = refl
words_begin p (x ∷ xs) = onto_front_none (is_cut p x) x (pieces Bare xs) (pieces (next p x) xs)

module _ (p : Quoting) (xs : List ℕ) (i : ℕ) (less : i < length xs) (whole : List (List ℕ)) (same : onto_front (take i xs) (pieces p (drop i xs)) ≡ whole) where
  here : onto_front (take i xs) (cond (is_cut p (get_or xs i 0)) ([] ∷ pieces Bare (drop (i + 1) xs)) (onto_first (get_or xs i 0) (pieces (next p (get_or xs i 0)) (drop (i + 1) xs)))) ≡ whole
  here = ap (λ l. onto_front (take i xs) (pieces p l)) (sym (drop_more xs i 0 less)) ∙ same

  pub words_here : is_cut p (get_or xs i 0) ≡ true → whole ≡ take i xs ∷ pieces Bare (drop (i + 1) xs)
  words_here is =
      sym here
      ∙ ap (λ v. onto_front (take i xs) (cond v ([] ∷ pieces Bare (drop (i + 1) xs)) (onto_first (get_or xs i 0) (pieces (next p (get_or xs i 0)) (drop (i + 1) xs))))) is
      ∙ onto_front-end (take i xs) (pieces Bare (drop (i + 1) xs))

  pub words_more : (q : Quoting) → q ≡ next p (get_or xs i 0) → is_cut p (get_or xs i 0) ≡ false → onto_front (take (i + 1) xs) (pieces q (drop (i + 1) xs)) ≡ whole
  words_more q e not =
      ap (λ l. onto_front l (pieces q (drop (i + 1) xs))) (take_more xs i 0 less)
      ∙ onto_front-push (take i xs) (get_or xs i 0) (pieces q (drop (i + 1) xs))
      ∙ ap (λ r. onto_front (take i xs) (onto_first (get_or xs i 0) (pieces r (drop (i + 1) xs)))) e
      ∙ ap (λ v. onto_front (take i xs) (cond v ([] ∷ pieces Bare (drop (i + 1) xs)) (onto_first (get_or xs i 0) (pieces (next p (get_or xs i 0)) (drop (i + 1) xs))))) (sym not)
      ∙ here

pub words_end : (p : Quoting) (xs : List ℕ) (i : ℕ) (whole : List (List ℕ)) → length xs ≤ i → onto_front (take i xs) (pieces p (drop i xs)) ≡ whole → whole ≡ xs ∷ []
words_end p xs i whole le same =
    sym same
    ∙ ap (λ l. onto_front (take i xs) (pieces p l)) (drop_all i xs le)
    ∙ onto_front-end (take i xs) []
    ∙ ap (λ l. l ∷ []) (take_all i xs le)

-- ## A text without its quotes

-- One more byte.
module _ (p : Quoting) (xs : List ℕ) (i : ℕ) (less : i < length xs) (q : Quoting) (e : q ≡ next p (get_or xs i 0)) where
  step : said p (drop i xs) ≡ cond (keeps p (get_or xs i 0)) (get_or xs i 0 ∷ said q (drop (i + 1) xs)) (said q (drop (i + 1) xs))
  step =
      ap (said p) (drop_more xs i 0 less)
      ∙ ap (λ r. cond (keeps p (get_or xs i 0)) (get_or xs i 0 ∷ said r (drop (i + 1) xs)) (said r (drop (i + 1) xs))) (sym e)

  pub text_step : keeps p (get_or xs i 0) ≡ true → said p (drop i xs) ≡ get_or xs i 0 ∷ said q (drop (i + 1) xs)
  text_step is = step ∙ ap (λ v. cond v (get_or xs i 0 ∷ said q (drop (i + 1) xs)) (said q (drop (i + 1) xs))) is

  pub mark_step : keeps p (get_or xs i 0) ≡ false → said p (drop i xs) ≡ said q (drop (i + 1) xs)
  mark_step not = step ∙ ap (λ v. cond v (get_or xs i 0 ∷ said q (drop (i + 1) xs)) (said q (drop (i + 1) xs))) not

-- The result is a text of a line too.
unquoted_short : (p : Quoting) (xs : List ℕ) → length (said p xs) ≤ length xs
unquoted_short p [] = omega arith
unquoted_short p (x ∷ xs) =
    let h = unquoted_short (next p x) xs in
    elim (keeps p x) as (λ v. length (cond v (x ∷ said (next p x) xs) (said (next p x) xs)) ≤ suc (length xs)) [ true ↦ omega arith | false ↦ omega arith ]

unquoted_printable : (p : Quoting) (xs : List ℕ) → list_all is_printable xs ≡ true → list_all is_printable (said p xs) ≡ true
unquoted_printable p [] h = refl
unquoted_printable p (x ∷ xs) h =
    let (here, others) = and_parts (is_printable x) (list_all is_printable xs) h in
    let k = unquoted_printable (next p x) xs others in
    elim (keeps p x) as (λ v. list_all is_printable (cond v (x ∷ said (next p x) xs) (said (next p x) xs)) ≡ true) [
      | true ↦ and_from (is_printable x) (list_all is_printable (said (next p x) xs)) here k
      | false ↦ k
    ]

pub unquoted_text : (p : Quoting) (xs : List ℕ) → IsLineText xs → IsLineText (said p xs)
unquoted_text p xs h = record { short = let s = h.short in let l = unquoted_short p xs in omega arith; printable = unquoted_printable p xs h.printable }
