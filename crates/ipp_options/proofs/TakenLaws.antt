-- The values that are stated of an option are taken again.
use Rattle.std.proofs.Common.{◌≡◌, ℕ, Bool, true, false, ◌&&◌, ◌==◌, cond, List, [], ◌∷◌, codes, Option, None, Some, refl, ap, sym, subst, ◌∙◌}
use Rattle.std.specs.List.{list_all}
use Rattle.std.specs.Option.{option_and_then}
use Rattle.ipp_values.specs.TextLimits.{is_text}
use Rattle.ipp_values.specs.declared.value.Value.{Value}
use Rattle.ipp_values.specs.declared.value.Value.TheVariants as values
use Rattle.ipp_printers.specs.declared.property.Property.{Property}
use Rattle.ipp_options.specs.AttributeWords.{word_in, integer_in, enum_in}
use Rattle.ipp_options.specs.TemplateChoices.{number_up, orientation, quality}
use Rattle.ipp_options.specs.OptionValues.{chosen, finishings_of, is_choice, is_no_finishing, is_some_list, lent_value}
use Rattle.ipp_options.specs.StatedAttributes.{keyword_in, one_or_none, values_of, IsTaken, IsTakenAgain}
use Rattle.ipp_options.specs.declared.choice.Choice.{Choice}
use Rattle.ipp_options.specs.declared.choice.Choice.TheVariants.{Media, Sides, NumberUp, Orientation, PageRanges, Quality, ColorMode, Scaling, Resolution, OutputBin, Finishings, Handling}

some_same : (a b : List ℕ) → ◌≡◌ {A = Option (List ℕ)} (Some a) (Some b) → a ≡ b
some_same a b e = cc

-- A text that is chosen is this word, or one of the others.
one_of : (P : List ℕ → Type 0) (v : Bool) (word text : List ℕ) (other : Option (List ℕ)) → cond v (Some word) other ≡ Some text → P word → (other ≡ Some text → P text) → P text
one_of P true word text other e here more = subst P (some_same word text e) here
one_of P false word text other e here more = more e

no_text : (P : List ℕ → Type 0) (text : List ℕ) → ◌≡◌ {A = Option (List ℕ)} None (Some text) → P text
no_text P text e = absurd (cc)

module _ (printer : List Property) where
  abbrev Again : Choice → List ℕ → Type 0
  Again choice text = lent_value printer choice (values_of choice text) ≡ Some text

  again_number : (text : List ℕ) (o : Option ℕ) → option_and_then number_up o ≡ Some text → Again NumberUp text
  again_number text None e = no_text (Again NumberUp) text e
  again_number text (Some n) e =
      one_of (Again NumberUp) (n == 1) (codes "1") text _ e refl
      (λ e. one_of (Again NumberUp) (n == 2) (codes "2") text _ e refl
      (λ e. one_of (Again NumberUp) (n == 4) (codes "4") text _ e refl
      (λ e. one_of (Again NumberUp) (n == 6) (codes "6") text _ e refl
      (λ e. one_of (Again NumberUp) (n == 9) (codes "9") text _ e refl
      (λ e. one_of (Again NumberUp) (n == 16) (codes "16") text _ e refl
      (λ e. no_text (Again NumberUp) text e))))))

  again_orientation : (text : List ℕ) (o : Option ℕ) → option_and_then orientation o ≡ Some text → Again Orientation text
  again_orientation text None e = no_text (Again Orientation) text e
  again_orientation text (Some n) e =
      one_of (Again Orientation) (n == 3) (codes "3") text _ e refl
      (λ e. one_of (Again Orientation) (n == 4) (codes "4") text _ e refl
      (λ e. one_of (Again Orientation) (n == 5) (codes "5") text _ e refl
      (λ e. one_of (Again Orientation) (n == 6) (codes "6") text _ e refl
      (λ e. no_text (Again Orientation) text e))))

  again_quality : (text : List ℕ) (o : Option ℕ) → option_and_then quality o ≡ Some text → Again Quality text
  again_quality text None e = no_text (Again Quality) text e
  again_quality text (Some n) e =
      one_of (Again Quality) (n == 3) (codes "3") text _ e refl
      (λ e. one_of (Again Quality) (n == 4) (codes "4") text _ e refl
      (λ e. one_of (Again Quality) (n == 5) (codes "5") text _ e refl
      (λ e. no_text (Again Quality) text e)))

  again_finishings : (text : List ℕ) (v : Bool) → cond v (Some (codes "3")) None ≡ Some text → Again Finishings text
  again_finishings text v e = one_of (Again Finishings) v (codes "3") text None e refl (λ e. no_text (Again Finishings) text e)

  -- A word that is chosen is chosen again.
  again_word : (choice : Choice) (text : List ℕ) (o : Option (List ℕ)) → is_text 1 255 127 text ≡ true → option_and_then (chosen printer choice) o ≡ Some text
      → option_and_then (chosen printer choice) (word_in (one_or_none (keyword_in text))) ≡ Some text
  again_word choice text None t e = absurd (cc)
  again_word choice text (Some word) t e = by_choice (is_choice printer choice word) refl e
    where
      stated : word_in (one_or_none (keyword_in text)) ≡ Some text
      stated = ap (λ v. word_in (one_or_none (cond v (Some (values.Keyword text)) None))) t

      by_choice : (v : Bool) → is_choice printer choice word ≡ v → cond v (Some word) None ≡ Some text → option_and_then (chosen printer choice) (word_in (one_or_none (keyword_in text))) ≡ Some text
      by_choice true is k =
          let same : word ≡ text = some_same word text k in
          let taken : is_choice printer choice text ≡ true = ap (is_choice printer choice) (sym same) ∙ is in
          ap (option_and_then (chosen printer choice)) stated ∙ ap (λ v. cond v (Some text) None) taken
      by_choice false is k = absurd (cc)

  -- A choice that has no words takes none.
  no_word : (choice : Choice) (text : List ℕ) (o : Option (List ℕ)) → ((word : List ℕ) → is_choice printer choice word ≡ false) → option_and_then (chosen printer choice) o ≡ Some text → IsTakenAgain printer choice text
  no_word choice text None never e = no_text (λ _. IsTakenAgain printer choice text) text e
  no_word choice text (Some word) never e = no_text (λ _. IsTakenAgain printer choice text) text (sym (ap (λ v. cond v (Some word) None) (never word)) ∙ e)

  pub taken_again : (choice : Choice) (list : List Value) (text : List ℕ) → is_text 1 255 127 text ≡ true → IsTaken printer choice list text → IsTakenAgain printer choice text
  taken_again NumberUp list text t e = again_number text (integer_in list) e
  taken_again Orientation list text t e = again_orientation text (enum_in list) e
  taken_again Quality list text t e = again_quality text (enum_in list) e
  taken_again Finishings list text t e = again_finishings text (is_some_list list && list_all is_no_finishing list) e
  taken_again Media list text t e = again_word Media text (word_in list) t e
  taken_again Sides list text t e = again_word Sides text (word_in list) t e
  taken_again ColorMode list text t e = again_word ColorMode text (word_in list) t e
  taken_again Scaling list text t e = again_word Scaling text (word_in list) t e
  taken_again OutputBin list text t e = again_word OutputBin text (word_in list) t e
  taken_again Handling list text t e = again_word Handling text (word_in list) t e
  taken_again PageRanges list text t e = no_word PageRanges text (word_in list) (λ word. refl) e
  taken_again Resolution list text t e = no_word Resolution text (word_in list) (λ word. refl) e
