-- Names that were seen before, one attribute at a time.
use Rattle.std.proofs.Common.{◌≡◌, ℕ, suc, ◌+◌, ◌<◌, Bool, true, false, not, cond, ◌||◌, List, [], ◌∷◌, length, drop, get_or, refl, ap, sym, ◌∙◌, drop-cons, add-one}
use Rattle.std.specs.List.{list_any}
use Rattle.std.specs.Ordering.{is_eq, nat_cmp}
use Rattle.std.specs.Cmp.Lexicographic.{slice_cmp}
use Rattle.std.proofs.lemmas.Map.Text.{is_eq-slice_cmp}
use Rattle.ipp_values.specs.declared.message.Attribute.{Attribute}
use Rattle.ipp_requests.specs.IppChecks.{is_same, repeats}

or_cond : (b x : Bool) → cond b true x ≡ b || x
or_cond true x = refl
or_cond false x = refl

-- The set after an insert has the names before and the new one.
pub one_more : (name : List ℕ) (names : List (List ℕ)) (q : List ℕ) (before after : Bool) → after ≡ cond (is_eq (slice_cmp nat_cmp name q)) true before → before ≡ list_any (is_same q) names →
    after ≡ list_any (is_same q) (name ∷ names)
one_more name names q before after inserted was =
    inserted
    ∙ or_cond (is_eq (slice_cmp nat_cmp name q)) before
    ∙ ap (λ (b : Bool). b || before) (is_eq-slice_cmp name q)
    ∙ ap (λ (b : Bool). is_same q name || b) was

here : {A : Type 0} (items : List A) (i : ℕ) (item : A) → i < length items → item ≡ get_or items i item → drop i items ≡ item ∷ drop (i + 1) items
here {A} items i item within is =
    drop-cons items i item within
    ∙ ap (λ (x : A). x ∷ drop (suc i) items) (sym is)
    ∙ ap (λ (n : ℕ). item ∷ drop n items) (sym (add-one i))

-- The name was not seen before.
pub goes_on : (attributes : List Attribute) (i : ℕ) (a : Attribute) (names : List (List ℕ)) (seen : Bool) → i < length attributes → a ≡ get_or attributes i a → seen ≡ list_any (is_same a.name) names →
    seen ≡ false → repeats [] attributes ≡ repeats names (drop i attributes) → repeats [] attributes ≡ repeats (a.name ∷ names) (drop (i + 1) attributes)
goes_on attributes i a names seen within is was fresh so_far =
    so_far
    ∙ ap (repeats names) (here attributes i a within is)
    ∙ ap (λ (b : Bool). b || repeats (a.name ∷ names) (drop (i + 1) attributes)) (sym was ∙ fresh)

pub is_new : (b : Bool) → not b ≡ true → b ≡ false
is_new true is = cc
is_new false is = refl
