-- The words among the reasons after words were added or dropped.
use Rattle.std.proofs.Common.{◌≡◌, ℕ, zero, suc, ◌-◌, Bool, true, false, cond, not, ◌&&◌, ◌||◌, List, [], ◌∷◌, length, take, inl, inr, refl, sym, ap, ◌∙◌, arith}
use Rattle.std.specs.declared.cmp.Ordering.TheVariants.{Less, Equal, Greater}
use Rattle.std.specs.FinMap.Entries.{by_order}
use Rattle.std.proofs.lemmas.Bool.{cases_Bool, cases_lt, and_parts, both_ways}
use Rattle.std.proofs.lemmas.Map.Views.{any-filter_same}
use Rattle.std.proofs.lemmas.Slice.Eq.{bytes_eq-Decides}
use Rattle.row_effects.specs.Keys.{most_kept, is_ascending, with_item}
use Rattle.row_effects.specs.QueueReasons.{word_of, has_word, add_reasons, drop_reasons, new_words}
use Rattle.row_effects.proofs.Keys.{compare, same, one_key, apart, below_less, absent_below, has_with, length_with, ascends_with}
use Rattle.row_effects.proofs.Kept.{kept_there, kept_below, kept_full}

-- An existing word changes nothing.
with_known : (word : List ℕ) (words : List (List ℕ)) → is_ascending word_of words ≡ true → has_word word words ≡ true → with_item word_of word words ≡ words
with_known word [] h there = absurd (cc)
with_known word (z ∷ zs) h there =
    let both = and_parts _ _ h in
    let rest = with_known word zs both.1 in
    elim (compare word z) as (λ r. compare word z ≡ r → by_order r (word ∷ z ∷ zs) (word ∷ zs) (z ∷ with_item word_of word zs) ≡ z ∷ zs) [
      | Less ↦ λ p. absurd (both_ways _ (ap (λ b. b || has_word word zs) (apart word z Less p) ∙ absent_below word_of word zs (below_less word_of word z zs p both.0)) there)
      | Equal ↦ λ p. ap (λ w. w ∷ zs) (one_key word z p)
      | Greater ↦ λ p. ap (λ ws. z ∷ ws) (rest (sym (ap (λ b. b || has_word word zs) (apart word z Greater p)) ∙ there))
    ] refl

-- Only the set of words seen matters.
new_alike : (seen known : List (List ℕ)) → ((word : List ℕ) → has_word word seen ≡ has_word word known) → (words : List (List ℕ)) → new_words seen words ≡ new_words known words
new_alike seen known alike [] = refl
new_alike seen known alike (word ∷ words) =
    (λ i. cond (alike word i) (new_words seen words) (word ∷ new_words (word ∷ seen) words))
    ∙ (λ i. cond (has_word word known) (new_alike seen known alike words i) (word ∷ new_alike (word ∷ seen) (word ∷ known) (λ w. ap (λ b. same word w || b) (alike w)) words i))

or_joined : (a b c : Bool) → ((a || b) || c) ≡ (a || (b || c))
or_joined true b c = refl
or_joined false b c = refl

or_swapped : (a b : Bool) → (a || b) ≡ (b || a)
or_swapped true true = refl
or_swapped true false = refl
or_swapped false true = refl
or_swapped false false = refl

and_swapped : (a b : Bool) → (a && b) ≡ (b && a)
and_swapped true true = refl
and_swapped true false = refl
and_swapped false true = refl
and_swapped false false = refl

-- The word is among the first `count` words.
abbrev is_first : List ℕ → ℕ → List (List ℕ) → Bool
is_first word count words = has_word word (take count words)

none_first : (word : List ℕ) (count : ℕ) → is_first word count [] ≡ false
none_first word zero = refl
none_first word (suc count) = refl

or_none : (a b : Bool) → b ≡ false → a ≡ (a || b)
or_none true b e = refl
or_none false b e = sym e

next_first : (word first : List ℕ) (words : List (List ℕ)) (count less : ℕ) → count ≡ suc less → is_first word count (first ∷ words) ≡ (same first word || is_first word less words)
next_first word first words count less e = ap (λ n. is_first word n (first ∷ words)) e

pub added : (words reasons : List (List ℕ)) (word : List ℕ) → is_ascending word_of reasons ≡ true → has_word word (add_reasons words reasons) ≡ (has_word word reasons || is_first word (most_kept - length reasons) (new_words reasons words))
added [] reasons word h = or_none _ _ (none_first word (most_kept - length reasons))
added (first ∷ words) reasons word h = elim (cases_Bool (has_word first reasons)) [
  | inl there ↦
      ap (λ rs. has_word word (add_reasons words rs)) (kept_there word_of first reasons there ∙ with_known first reasons h there)
      ∙ added words reasons word h
      ∙ ap (λ b. has_word word reasons || is_first word (most_kept - length reasons) (cond b (new_words reasons words) (first ∷ new_words (first ∷ reasons) words))) (sym there)
  | inr new ↦ elim (cases_lt (length reasons) most_kept) [
    | inl room ↦
        let more = with_item word_of first reasons in
        let long : length more ≡ suc (length reasons) = length_with word_of first reasons h ∙ ap (λ b. cond b (length reasons) (suc (length reasons))) new in
        let fewer : most_kept - length reasons ≡ suc (most_kept - length more) = omega arith in
        let alike : (w : List ℕ) → has_word w more ≡ has_word w (first ∷ reasons) = λ w. has_with word_of first reasons w ∙ or_swapped (has_word w reasons) (same first w) in
        ap (λ rs. has_word word (add_reasons words rs)) (kept_below word_of first reasons room)
        ∙ added words more word (ascends_with word_of first reasons h)
        ∙ ap (λ ws. has_word word more || is_first word (most_kept - length more) ws) (new_alike more (first ∷ reasons) alike words)
        ∙ ap (λ b. b || is_first word (most_kept - length more) (new_words (first ∷ reasons) words)) (has_with word_of first reasons word)
        ∙ or_joined (has_word word reasons) (same first word) _
        ∙ ap (λ b. has_word word reasons || b) (sym (next_first word first (new_words (first ∷ reasons) words) (most_kept - length reasons) (most_kept - length more) fewer))
        ∙ ap (λ b. has_word word reasons || is_first word (most_kept - length reasons) (cond b (new_words reasons words) (first ∷ new_words (first ∷ reasons) words))) (sym new)
    | inr full ↦
        let none : most_kept - length reasons ≡ 0 = omega arith in
        ap (λ rs. has_word word (add_reasons words rs)) (kept_full word_of first reasons new full)
        ∙ added words reasons word h
        ∙ ap (λ n. has_word word reasons || is_first word n (new_words reasons words)) none
        ∙ ap (λ n. has_word word reasons || is_first word n (new_words reasons (first ∷ words))) (sym none)
  ]
]

pub dropped : (words reasons : List (List ℕ)) (word : List ℕ) → has_word word (drop_reasons words reasons) ≡ (has_word word reasons && not (has_word word words))
dropped words reasons word =
    any-filter_same (λ reason. same reason word) (λ reason. not (has_word reason words)) (not (has_word word words)) (λ reason e. ap (λ w. not (has_word w words)) ((bytes_eq-Decides reason word).0 e)) reasons
    ∙ and_swapped (not (has_word word words)) (has_word word reasons)
