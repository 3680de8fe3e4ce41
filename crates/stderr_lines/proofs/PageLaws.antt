-- Two words, and no third.
use Rattle.std.proofs.Common.{◌≡◌, ℕ, suc, ◌&&◌, Bool, true, false, cond, List, [], ◌∷◌, length, eqb, refl, ap, sym, ◌∙◌, arith, Option, None}
use Rattle.std.proofs.lemmas.Bool.{ne_eqb}
use Rattle.line_words.specs.Blanks.{is_blank, after_blanks, first_word, after_word, is_nothing}
use Rattle.spool_types.specs.declared.effect.Effect.{Effect}
use Rattle.stderr_lines.specs.PageLines.{two_words, page_effect}

blank_test : (xs : List ℕ) → eqb (length (after_blanks xs)) 0 ≡ is_nothing xs
blank_test [] = refl
blank_test (b ∷ bs) =
    let others = blank_test bs in
    elim (is_blank b) as (λ v. eqb (length (cond v (after_blanks bs) (b ∷ bs))) 0 ≡ (v && is_nothing bs)) [
      | true ↦ others
      | false ↦ ne_eqb (suc (length bs)) 0 (λ h. absurd (omega arith))
    ]

module _ (text behind rest end : List ℕ) (is_behind : behind ≡ after_word text) (is_rest : rest ≡ after_word behind) (is_end : end ≡ after_blanks rest) where
  test : is_nothing (after_word (after_word text)) ≡ eqb (length end) 0
  test = ap (λ l. is_nothing (after_word l)) (sym is_behind) ∙ ap is_nothing (sym is_rest) ∙ sym (blank_test rest) ∙ ap (λ l. eqb (length l) 0) (sym is_end)

  pub third_word : eqb (length end) 0 ≡ false → None ≡ page_effect text
  third_word h = sym (ap (λ v. cond v (two_words (first_word text) (first_word (after_word text))) None) (test ∙ h))

  pub no_third_word : (first second : List ℕ) → first ≡ first_word text → second ≡ first_word behind → eqb (length end) 0 ≡ true → two_words first second ≡ page_effect text
  no_third_word first second is_first is_second h =
      ap (λ w. two_words w second) is_first
      ∙ ap (two_words (first_word text)) (is_second ∙ ap first_word is_behind)
      ∙ sym (ap (λ v. cond v (two_words (first_word text) (first_word (after_word text))) None) (test ∙ h))
