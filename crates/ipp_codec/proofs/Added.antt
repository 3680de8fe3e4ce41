-- Spellings of items in order, appended to octets.
use Rattle.std.proofs.Common.{◌≡◌, ℕ, ◌+◌, ◌<◌, List, [], ◌∷◌, ◌++◌, length, get_or, take, sym, ap, ◌∙◌, subst, append_assoc}
use Rattle.std.specs.List.{flat_map, AllByRecursion}
use Rattle.std.proofs.lemmas.List.{append-nil, take_more}
use Rattle.std.proofs.lemmas.List.Concat.{flat_map-cons}
use Rattle.std.proofs.lemmas.Grind.{flat_map-append}

-- These items were appended, and each is legal.
pub record AreAdded {A : Type 0} (code : A → List ℕ) (Legal : A → Type 0) (before now : List ℕ) (items : List A) : Type 0 where
  pub octets : now ≡ before ++ flat_map code items
  pub legal : AllByRecursion Legal items

all_and_one : {A : Type 0} (Legal : A → Type 0) (xs : List A) (x : A) → AllByRecursion Legal xs → Legal x → AllByRecursion Legal (xs ++ x ∷ [])
all_and_one Legal [] x h l = (l, tt)
all_and_one Legal (y ∷ ys) x h l = (h.0, all_and_one Legal ys x h.1 l)

-- The next item was appended.
pub next_added : {A : Type 0} (code : A → List ℕ) (Legal : A → Type 0) (before now after : List ℕ) (all : List A) (i : ℕ) (x : A) → x ≡ get_or all i x → i < length all → AreAdded code Legal before now (take i all)
    → after ≡ now ++ code x → Legal x → AreAdded code Legal before after (take (i + 1) all)
next_added {A = A} code Legal before now after all i x is lt added written legal =
    let front = take i all in
    let one : flat_map code (front ++ x ∷ []) ≡ flat_map code front ++ code x = flat_map-append code front (x ∷ []) ∙ ap (λ (l : List ℕ). flat_map code front ++ l) (flat_map-cons code x [] ∙ append-nil (code x)) in
    let more : AreAdded code Legal before after (front ++ x ∷ []) = record {
      octets = written ∙ ap (λ (l : List ℕ). l ++ code x) added.octets ∙ append_assoc before (flat_map code front) (code x) ∙ ap (λ (l : List ℕ). before ++ l) (sym one);
      legal = all_and_one Legal front x added.legal legal;
    } in
    let taken : front ++ x ∷ [] ≡ take (i + 1) all = ap (λ (y : A). front ++ y ∷ []) is ∙ sym (take_more all i x lt) in
    subst (λ (xs : List A). AreAdded code Legal before after xs) taken more
