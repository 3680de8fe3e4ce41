-- Words that are added to a list of reasons, or dropped from it, in order.
use Rattle.std.proofs.Common.{◌≡◌, ℕ, ◌+◌, ◌<◌, ◌≤◌, Bool, true, false, cond, not, ◌||◌, List, [], ◌∷◌, length, get_or, set, take, refl, sym, ap, ◌∙◌}
use Rattle.std.specs.List.{remove, filter}
use Rattle.std.specs.Cmp.Lexicographic.{nat_list_eq_equiv}
use Rattle.std.proofs.lemmas.List.{set-get_or}
use Rattle.std.proofs.lemmas.List.Folds.{list_any_more}
use Rattle.row_effects.specs.Keys.{most_kept, is_ascending, with_kept, IsPosition, IsGap}
use Rattle.row_effects.specs.QueueReasons.{word_of, has_word, add_reason, add_reasons, drop_reasons}
use Rattle.row_effects.proofs.Keys.{same, has_gap, ascends_filter, without_absent, without_place}
use Rattle.row_effects.proofs.Kept.{kept_place, ascends_kept, few_kept}

-- An existing word is unchanged.
pub kept_word : (words : List (List ℕ)) → is_ascending word_of words ≡ true → (word : List ℕ) (i : ℕ) → IsPosition word_of words word i → with_kept word_of word words ≡ words
kept_word words h word i at = kept_place word_of words h word i at ∙ ap (λ w. set words i w) (sym (at.same word)) ∙ set-get_or words i word

pub ascends_added : (words reasons : List (List ℕ)) → is_ascending word_of reasons ≡ true → is_ascending word_of (add_reasons words reasons) ≡ true
ascends_added [] reasons h = h
ascends_added (word ∷ words) reasons h = ascends_added words (add_reason reasons word) (ascends_kept word_of word reasons h)

pub few_added : (words reasons : List (List ℕ)) → is_ascending word_of reasons ≡ true → length reasons ≤ most_kept → length (add_reasons words reasons) ≤ most_kept
few_added [] reasons h le = le
few_added (word ∷ words) reasons h le = few_added words (add_reason reasons word) (ascends_kept word_of word reasons h) (few_kept word_of word reasons h le)

filter_alike : {X : Type 0} (p q : X → Bool) → ((x : X) → p x ≡ q x) → (xs : List X) → filter p xs ≡ filter q xs
filter_alike p q alike [] = refl
filter_alike p q alike (x ∷ xs) = (λ i. cond (alike x i) (x ∷ filter p xs) (filter p xs)) ∙ ap (λ ys. cond (q x) (x ∷ ys) ys) (filter_alike p q alike xs)

-- The elements that neither of two tests removes.
filter_twice : {X : Type 0} (p q : X → Bool) (xs : List X) → filter (λ x. not (q x)) (filter (λ x. not (p x)) xs) ≡ filter (λ x. not (p x || q x)) xs
filter_twice p q [] = refl
filter_twice p q (x ∷ xs) =
    let rest = filter_twice p q xs in
    elim (p x) as (λ a. filter (λ x. not (q x)) (cond (not a) (x ∷ filter (λ x. not (p x)) xs) (filter (λ x. not (p x)) xs)) ≡ cond (not (a || q x)) (x ∷ filter (λ x. not (p x || q x)) xs) (filter (λ x. not (p x || q x)) xs)) [
      | true ↦ rest
      | false ↦ ap (λ ys. cond (not (q x)) (x ∷ ys) ys) rest
    ]

or_false : (b : Bool) → (b || false) ≡ b
or_false true = refl
or_false false = refl

-- Dropping one word compares it with each reason. The order of the two operands does not matter.
one_dropped : (word : List ℕ) (reasons : List (List ℕ)) → drop_reasons (word ∷ []) reasons ≡ filter (λ reason. not (same (word_of reason) word)) reasons
one_dropped word = filter_alike (λ reason. not (has_word reason (word ∷ []))) (λ reason. not (same (word_of reason) word)) (λ reason. ap not (or_false (same word reason) ∙ nat_list_eq_equiv.symm word reason))

pub dropped_place : (reasons : List (List ℕ)) → is_ascending word_of reasons ≡ true → (word : List ℕ) (i : ℕ) → IsPosition word_of reasons word i → drop_reasons (word ∷ []) reasons ≡ remove reasons i
dropped_place reasons h word i at = one_dropped word reasons ∙ without_place word_of reasons h word i at

pub dropped_absent : (reasons : List (List ℕ)) (word : List ℕ) (i : ℕ) → IsGap word_of reasons word i → drop_reasons (word ∷ []) reasons ≡ reasons
dropped_absent reasons word i gap = one_dropped word reasons ∙ without_absent word_of word reasons (has_gap word_of reasons word i gap)

pub ascends_dropped : (words reasons : List (List ℕ)) → is_ascending word_of reasons ≡ true → is_ascending word_of (drop_reasons words reasons) ≡ true
ascends_dropped words reasons h = ascends_filter word_of (λ reason. not (has_word reason words)) reasons h

-- One more word.
pub dropped_more : (words reasons : List (List ℕ)) (i : ℕ) (word : List ℕ) → i < length words → word ≡ get_or words i word → drop_reasons (word ∷ []) (drop_reasons (take i words) reasons) ≡ drop_reasons (take (i + 1) words) reasons
dropped_more words reasons i word lt read =
    filter_twice (λ reason. has_word reason (take i words)) (λ reason. has_word reason (word ∷ [])) reasons
    ∙ filter_alike (λ reason. not (has_word reason (take i words) || has_word reason (word ∷ []))) (λ reason. not (has_word reason (take (i + 1) words))) (λ reason. ap not (
    ap (λ b. has_word reason (take i words) || b) (or_false (same word reason) ∙ ap (λ w. same w reason) read)
    ∙ sym (list_any_more (λ w. same w reason) words i word lt))) reasons

-- Dropping no words changes nothing.
pub dropped_none : (reasons : List (List ℕ)) → drop_reasons [] reasons ≡ reasons
dropped_none [] = refl
dropped_none (reason ∷ reasons) = ap (λ words. reason ∷ words) (dropped_none reasons)
