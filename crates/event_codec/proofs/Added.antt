-- Codes of values in order, appended to bytes.
use Rattle.std.proofs.Common.{◌≡◌, ℕ, ◌+◌, ◌<◌, ◌≤◌, List, [], ◌∷◌, ◌++◌, length, get_or, take, sym, ap, ◌∙◌, subst, append_assoc, arith}
use Rattle.std.specs.Vec.{vec_len, vec_capacity}
use Rattle.std.specs.List.{flat_map, AllByRecursion}
use Rattle.std.proofs.lemmas.List.{length-append, append-nil, take_more}
use Rattle.std.proofs.lemmas.List.Concat.{flat_map-cons}
use Rattle.std.proofs.lemmas.Grind.{flat_map-append}
use Rattle.std.proofs.lemmas.List.Folds.{length-flat_map-take}
use Rattle.std.specs.declared.vec.Vec.{Vec}
use Rattle.std.specs.declared.alloc.Global.{Global}

-- These values were written, and each is legal.
pub record AreAdded {A : Type 0} (code : A → List ℕ) (Legal : A → Type 0) (before now : Vec ℕ Global) (values : List A) : Type 0 where
  pub bytes : now.items ≡ before.items ++ flat_map code values
  pub len : vec_len now ≡ vec_len before + length (flat_map code values)
  pub grown : vec_capacity before ≤ vec_capacity now
  pub legal : AllByRecursion Legal values

-- The next value fits.
pub has_place : {A : Type 0} (code : A → List ℕ) (Legal : A → Type 0) (before now : Vec ℕ Global) (all : List A) (i : ℕ) (x : A) → x ≡ get_or all i x → i < length all → AreAdded code Legal before now (take i all)
    → vec_len before + length (flat_map code all) ≤ vec_capacity before → vec_len now + length (code x) ≤ vec_capacity now
has_place {A = A} code Legal before now all i x is lt added room =
    let most : length (flat_map code (take i all)) + length (code x) ≤ length (flat_map code all) =
    subst (λ (y : A). length (flat_map code (take i all)) + length (code y) ≤ length (flat_map code all)) (sym is) (length-flat_map-take code all i x lt) in
    omega (arith, most, added.len, added.grown, room)

all_and_one : {A : Type 0} (Legal : A → Type 0) (xs : List A) (x : A) → AllByRecursion Legal xs → Legal x → AllByRecursion Legal (xs ++ x ∷ [])
all_and_one Legal [] x h l = (l, tt)
all_and_one Legal (y ∷ ys) x h l = (h.0, all_and_one Legal ys x h.1 l)

-- The next value was written.
pub next_added : {A : Type 0} (code : A → List ℕ) (Legal : A → Type 0) (before now after : Vec ℕ Global) (all : List A) (i : ℕ) (x : A) → x ≡ get_or all i x → i < length all → AreAdded code Legal before now (take i all)
    → after.items ≡ now.items ++ code x → vec_len after ≡ vec_len now + length (code x) → vec_capacity now ≤ vec_capacity after → Legal x → AreAdded code Legal before after (take (i + 1) all)
next_added {A = A} code Legal before now after all i x is lt added written longer grown legal =
    let front = take i all in
    let one : flat_map code (front ++ x ∷ []) ≡ flat_map code front ++ code x = flat_map-append code front (x ∷ []) ∙ ap (λ (l : List ℕ). flat_map code front ++ l) (flat_map-cons code x [] ∙ append-nil (code x)) in
    let more : AreAdded code Legal before after (front ++ x ∷ []) = record {
      bytes = written ∙ ap (λ (l : List ℕ). l ++ code x) added.bytes ∙ append_assoc before.items (flat_map code front) (code x) ∙ ap (λ (l : List ℕ). before.items ++ l) (sym one);
      len = omega (arith, longer, added.len, ap length one, length-append (flat_map code front) (code x));
      grown = omega (arith, added.grown, grown);
      legal = all_and_one Legal front x added.legal legal;
    } in
    let taken : front ++ x ∷ [] ≡ take (i + 1) all = ap (λ (y : A). front ++ y ∷ []) is ∙ sym (take_more all i x lt) in
    subst (λ (xs : List A). AreAdded code Legal before after xs) taken more

-- ---- one code after another

-- This code was appended to the bytes.
pub record Put (before code after : List ℕ) : Type 0 where
  pub is : after ≡ before ++ code

Put-then : (before first middle second after : List ℕ) → Put before first middle → Put middle second after → Put before (first ++ second) after
Put-then before first middle second after p q = record { is = q.is ∙ ap (λ (l : List ℕ). l ++ second) p.is ∙ append_assoc before first second }

infixl 10 ◌▷◌
pub ◌▷◌ : {before first middle second after : List ℕ} → Put before first middle → Put middle second after → Put before (first ++ second) after
p ▷ q = Put-then _ _ _ _ _ p q

pub put_is : (before code after : List ℕ) → after ≡ before ++ code → Put before code after
put_is before code after written = record { is = written }

-- The same for an equal value.
pub put_as : {A : Type 0} (before after : List ℕ) (code : A → List ℕ) (put value : A) → put ≡ value → after ≡ before ++ code put → Put before (code value) after
put_as {A = A} before after code put value same written = record { is = written ∙ ap (λ (x : A). before ++ code x) same }

-- ---- two codes in order

pub first_fits : (first second : List ℕ) (before : Vec ℕ Global) → vec_len before + length (first ++ second) ≤ vec_capacity before → vec_len before + length first ≤ vec_capacity before
first_fits first second before room = omega (arith, room, length-append first second)

pub then_fits : (first second : List ℕ) (before now : Vec ℕ Global) → vec_len now ≡ vec_len before + length first → vec_capacity before ≤ vec_capacity now → vec_len before + length (first ++ second) ≤ vec_capacity before → vec_len now + length second ≤ vec_capacity now
then_fits first second before now len grown room = omega (arith, len, grown, room, length-append first second)

pub put_both : (first second : List ℕ) (before now after : Vec ℕ Global) → now.items ≡ before.items ++ first → after.items ≡ now.items ++ second → after.items ≡ before.items ++ (first ++ second)
put_both first second before now after one two = two ∙ ap (λ (l : List ℕ). l ++ second) one ∙ append_assoc before.items first second

pub both_long : (first second : List ℕ) (before now after : Vec ℕ Global) → vec_len now ≡ vec_len before + length first → vec_len after ≡ vec_len now + length second → vec_len after ≡ vec_len before + length (first ++ second)
both_long first second before now after one two = omega (arith, one, two, length-append first second)
