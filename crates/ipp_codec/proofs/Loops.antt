-- Reading items in order in a loop.
use Rattle.std.proofs.Common.{◌≡◌, ℕ, zero, suc, ◌+◌, ◌-◌, ◌<◌, ◌≤◌, Bool, true, false, cond, not, ltb, eqb, List, [], ◌∷◌, ◌++◌, Result, Ok, Err, refl, sym, ap, ◌∙◌, append_assoc, arith}
use Rattle.std.specs.Int.{w8}
use Rattle.std.proofs.lemmas.Bool.{lt-ltb, le-ltb}
use Rattle.std.proofs.lemmas.List.{append-nil}
use Rattle.ipp_values.specs.declared.value.Value.{Value}
use Rattle.ipp_values.specs.declared.message.Attribute.{Attribute}
use Rattle.ipp_values.specs.declared.message.Group.{Group}
use Rattle.ipp_codec.specs.declared.fault.DecodeFault.{DecodeFault}
use Rattle.ipp_codec.specs.declared.fault.DecodeFault.TheVariants.{NeedMore, TooLarge, Delimiter, Name, Length, Text, Boolean, Collection, Memory}
use Rattle.ipp_codec.specs.declared.place.Place.{Place}
use Rattle.ipp_codec.specs.Collections.{is_outside}
use Rattle.ipp_codec.specs.Reading.{additional_at, attribute_at, attributes_at, checked, follows, group_at, groups_at, number_at, values_at}
use Rattle.ipp_codec.specs.ReadSteps.{Field, ◌>>=◌, before, Fails}

-- An error of a step is that of the whole, if the step's error is.
pub carried : {A B : Type 0} (e : DecodeFault) (r : Result A DecodeFault) (t : Result B DecodeFault) → ((d : DecodeFault) → r ≡ Err d → t ≡ Err d) → Fails e r → Fails e t
carried NeedMore r t f h = f NeedMore h
carried TooLarge r t f h = f TooLarge h
carried Delimiter r t f h = f Delimiter h
carried Name r t f h = f Name h
carried Length r t f h = f Length h
carried Text r t f h = f Text h
carried Boolean r t f h = f Boolean h
carried Collection r t f h = f Collection h
carried Memory r t f h = tt

regrouped : {A : Type 0} (front : List A) (x : A) (read : Field (List A)) → before front (read >>= λ xs. Ok (x ∷ xs.0, xs.1)) ≡ before (front ++ x ∷ []) read
regrouped {A = A} front x (Ok y) = ap (λ (l : List A). Ok (l, y.1)) (simp append_assoc)
regrouped front x (Err e) = refl

-- The next item was read.
pub goes_on : {A : Type 0} (front : List A) (x : A) (here next total : Field (List A)) → here ≡ (next >>= λ xs. Ok (x ∷ xs.0, xs.1)) → before front here ≡ total → before (front ++ x ∷ []) next ≡ total
goes_on front x here next total e so_far = sym (regrouped front x next) ∙ ap (before front) (sym e) ∙ so_far

-- No item follows.
pub ended : {A : Type 0} (front : List A) (rest : List ℕ) (here total : Field (List A)) → here ≡ Ok ([], rest) → before front here ≡ total → total ≡ Ok (front, rest)
ended {A = A} front rest here total e so_far = sym so_far ∙ ap (before front) e ∙ ap (λ (l : List A). Ok (l, rest)) (append-nil front)

pub failed : {A : Type 0} (front : List A) (d : DecodeFault) (here total : Field (List A)) → here ≡ Err d → before front here ≡ total → total ≡ Err d
failed front d here total e so_far = sym so_far ∙ ap (before front) e

-- ---- values

pub values_next : (most i : ℕ) (place next : Place) (v : Value) (rest after : List ℕ) → i < most → follows place rest ≡ Ok true → additional_at place rest ≡ Ok ((next, v), after) → values_at (most - i) place rest ≡ (values_at (most - (i + 1)) next after >>= λ vs. Ok (v ∷ vs.0, vs.1))
unfolding values_at
values_next most i place next v rest after lt more read =
    let n = most - (i + 1) in
    let k : most - i ≡ suc n = omega (arith, lt) in
    ap (λ m. values_at m place rest) k
    ∙ ap (λ r. r >>= λ more. cond more (additional_at place rest >>= λ v. values_at n v.0.0 v.1 >>= λ vs. Ok (v.0.1 ∷ vs.0, vs.1)) (checked Collection (is_outside place) ([], rest))) more
    ∙ ap (λ r. r >>= λ v. values_at n v.0.0 v.1 >>= λ vs. Ok (v.0.1 ∷ vs.0, vs.1)) read

pub values_end : (most i : ℕ) (place : Place) (rest : List ℕ) → i < most → follows place rest ≡ Ok false → values_at (most - i) place rest ≡ checked Collection (is_outside place) ([], rest)
unfolding values_at
values_end most i place rest lt more =
    let n = most - (i + 1) in
    let k : most - i ≡ suc n = omega (arith, lt) in
    ap (λ m. values_at m place rest) k
    ∙ ap (λ r. r >>= λ more. cond more (additional_at place rest >>= λ v. values_at n v.0.0 v.1 >>= λ vs. Ok (v.0.1 ∷ vs.0, vs.1)) (checked Collection (is_outside place) ([], rest))) more

pub values_stop : (most i : ℕ) (place : Place) (rest : List ℕ) (d : DecodeFault) → i < most → follows place rest ≡ Err d → values_at (most - i) place rest ≡ Err d
unfolding values_at
values_stop most i place rest d lt more =
    let n = most - (i + 1) in
    let k : most - i ≡ suc n = omega (arith, lt) in
    ap (λ m. values_at m place rest) k
    ∙ ap (λ r. r >>= λ more. cond more (additional_at place rest >>= λ v. values_at n v.0.0 v.1 >>= λ vs. Ok (v.0.1 ∷ vs.0, vs.1)) (checked Collection (is_outside place) ([], rest))) more

pub values_fail : (most i : ℕ) (place : Place) (rest : List ℕ) (d : DecodeFault) → i < most → follows place rest ≡ Ok true → additional_at place rest ≡ Err d → values_at (most - i) place rest ≡ Err d
unfolding values_at
values_fail most i place rest d lt more read =
    let n = most - (i + 1) in
    let k : most - i ≡ suc n = omega (arith, lt) in
    ap (λ m. values_at m place rest) k
    ∙ ap (λ r. r >>= λ more. cond more (additional_at place rest >>= λ v. values_at n v.0.0 v.1 >>= λ vs. Ok (v.0.1 ∷ vs.0, vs.1)) (checked Collection (is_outside place) ([], rest))) more
    ∙ ap (λ r. r >>= λ v. values_at n v.0.0 v.1 >>= λ vs. Ok (v.0.1 ∷ vs.0, vs.1)) read

pub values_over : (most i : ℕ) (place : Place) (rest : List ℕ) → most ≤ i → values_at (most - i) place rest ≡ Err TooLarge
unfolding values_at
values_over most i place rest le = let k : most - i ≡ zero = omega (arith, le) in ap (λ m. values_at m place rest) k

-- ---- attributes

pub attributes_next : (most i number : ℕ) (rest left after : List ℕ) (a : Attribute) → i < most → number_at NeedMore w8 rest ≡ Ok (number, left) → 16 ≤ number → attribute_at most rest ≡ Ok (a, after)
    → attributes_at most (most - i) rest ≡ (attributes_at most (most - (i + 1)) after >>= λ others. Ok (a ∷ others.0, others.1))
unfolding attributes_at
attributes_next most i number rest left after a lt tag great read =
    let n = most - (i + 1) in
    let k : most - i ≡ suc n = omega (arith, lt) in
    ap (λ m. attributes_at most m rest) k
    ∙ ap (λ r. r >>= λ tag. cond (ltb tag.0 16) (Ok ([], rest)) (attribute_at most rest >>= λ a. attributes_at most n a.1 >>= λ others. Ok (a.0 ∷ others.0, others.1))) tag
    ∙ ap (λ b. cond b (Ok ([], rest)) (attribute_at most rest >>= λ a. attributes_at most n a.1 >>= λ others. Ok (a.0 ∷ others.0, others.1))) (le-ltb number 16 great)
    ∙ ap (λ r. r >>= λ a. attributes_at most n a.1 >>= λ others. Ok (a.0 ∷ others.0, others.1)) read

pub attributes_end : (most i number : ℕ) (rest left : List ℕ) → i < most → number_at NeedMore w8 rest ≡ Ok (number, left) → number < 16 → attributes_at most (most - i) rest ≡ Ok ([], rest)
unfolding attributes_at
attributes_end most i number rest left lt tag low =
    let n = most - (i + 1) in
    let k : most - i ≡ suc n = omega (arith, lt) in
    ap (λ m. attributes_at most m rest) k
    ∙ ap (λ r. r >>= λ tag. cond (ltb tag.0 16) (Ok ([], rest)) (attribute_at most rest >>= λ a. attributes_at most n a.1 >>= λ others. Ok (a.0 ∷ others.0, others.1))) tag
    ∙ ap (λ b. cond b (Ok ([], rest)) (attribute_at most rest >>= λ a. attributes_at most n a.1 >>= λ others. Ok (a.0 ∷ others.0, others.1))) (lt-ltb number 16 low)

pub attributes_stop : (most i : ℕ) (rest : List ℕ) (d : DecodeFault) → i < most → number_at NeedMore w8 rest ≡ Err d → attributes_at most (most - i) rest ≡ Err d
unfolding attributes_at
attributes_stop most i rest d lt tag =
    let n = most - (i + 1) in
    let k : most - i ≡ suc n = omega (arith, lt) in
    ap (λ m. attributes_at most m rest) k
    ∙ ap (λ r. r >>= λ tag. cond (ltb tag.0 16) (Ok ([], rest)) (attribute_at most rest >>= λ a. attributes_at most n a.1 >>= λ others. Ok (a.0 ∷ others.0, others.1))) tag

pub attributes_fail : (most i number : ℕ) (rest left : List ℕ) (d : DecodeFault) → i < most → number_at NeedMore w8 rest ≡ Ok (number, left) → 16 ≤ number → attribute_at most rest ≡ Err d → attributes_at most (most - i) rest ≡ Err d
unfolding attributes_at
attributes_fail most i number rest left d lt tag great read =
    let n = most - (i + 1) in
    let k : most - i ≡ suc n = omega (arith, lt) in
    ap (λ m. attributes_at most m rest) k
    ∙ ap (λ r. r >>= λ tag. cond (ltb tag.0 16) (Ok ([], rest)) (attribute_at most rest >>= λ a. attributes_at most n a.1 >>= λ others. Ok (a.0 ∷ others.0, others.1))) tag
    ∙ ap (λ b. cond b (Ok ([], rest)) (attribute_at most rest >>= λ a. attributes_at most n a.1 >>= λ others. Ok (a.0 ∷ others.0, others.1))) (le-ltb number 16 great)
    ∙ ap (λ r. r >>= λ a. attributes_at most n a.1 >>= λ others. Ok (a.0 ∷ others.0, others.1)) read

pub attributes_over : (most i : ℕ) (rest : List ℕ) → most ≤ i → attributes_at most (most - i) rest ≡ Err TooLarge
unfolding attributes_at
attributes_over most i rest le = let k : most - i ≡ zero = omega (arith, le) in ap (λ m. attributes_at most m rest) k

-- ---- groups

pub groups_next : (most i number : ℕ) (rest left after : List ℕ) (g : Group) → i < most → number_at NeedMore w8 rest ≡ Ok (number, left) → eqb number 3 ≡ false → group_at most number left ≡ Ok (g, after)
    → groups_at most (most - i) rest ≡ (groups_at most (most - (i + 1)) after >>= λ gs. Ok (g ∷ gs.0, gs.1))
unfolding groups_at
groups_next most i number rest left after g lt tag other read =
    let n = most - (i + 1) in
    let k : most - i ≡ suc n = omega (arith, lt) in
    ap (λ m. groups_at most m rest) k
    ∙ ap (λ r. r >>= λ number. cond (eqb number.0 3) (Ok ([], number.1)) (group_at most number.0 number.1 >>= λ g. groups_at most n g.1 >>= λ gs. Ok (g.0 ∷ gs.0, gs.1))) tag
    ∙ ap (λ b. cond b (Ok ([], left)) (group_at most number left >>= λ g. groups_at most n g.1 >>= λ gs. Ok (g.0 ∷ gs.0, gs.1))) other
    ∙ ap (λ r. r >>= λ g. groups_at most n g.1 >>= λ gs. Ok (g.0 ∷ gs.0, gs.1)) read

pub groups_end : (most i number : ℕ) (rest left : List ℕ) → i < most → number_at NeedMore w8 rest ≡ Ok (number, left) → eqb number 3 ≡ true → groups_at most (most - i) rest ≡ Ok ([], left)
unfolding groups_at
groups_end most i number rest left lt tag end =
    let n = most - (i + 1) in
    let k : most - i ≡ suc n = omega (arith, lt) in
    ap (λ m. groups_at most m rest) k
    ∙ ap (λ r. r >>= λ number. cond (eqb number.0 3) (Ok ([], number.1)) (group_at most number.0 number.1 >>= λ g. groups_at most n g.1 >>= λ gs. Ok (g.0 ∷ gs.0, gs.1))) tag
    ∙ ap (λ b. cond b (Ok ([], left)) (group_at most number left >>= λ g. groups_at most n g.1 >>= λ gs. Ok (g.0 ∷ gs.0, gs.1))) end

pub groups_stop : (most i : ℕ) (rest : List ℕ) (d : DecodeFault) → i < most → number_at NeedMore w8 rest ≡ Err d → groups_at most (most - i) rest ≡ Err d
unfolding groups_at
groups_stop most i rest d lt tag =
    let n = most - (i + 1) in
    let k : most - i ≡ suc n = omega (arith, lt) in
    ap (λ m. groups_at most m rest) k
    ∙ ap (λ r. r >>= λ number. cond (eqb number.0 3) (Ok ([], number.1)) (group_at most number.0 number.1 >>= λ g. groups_at most n g.1 >>= λ gs. Ok (g.0 ∷ gs.0, gs.1))) tag

pub groups_fail : (most i number : ℕ) (rest left : List ℕ) (d : DecodeFault) → i < most → number_at NeedMore w8 rest ≡ Ok (number, left) → eqb number 3 ≡ false → group_at most number left ≡ Err d → groups_at most (most - i) rest ≡ Err d
unfolding groups_at
groups_fail most i number rest left d lt tag other read =
    let n = most - (i + 1) in
    let k : most - i ≡ suc n = omega (arith, lt) in
    ap (λ m. groups_at most m rest) k
    ∙ ap (λ r. r >>= λ number. cond (eqb number.0 3) (Ok ([], number.1)) (group_at most number.0 number.1 >>= λ g. groups_at most n g.1 >>= λ gs. Ok (g.0 ∷ gs.0, gs.1))) tag
    ∙ ap (λ b. cond b (Ok ([], left)) (group_at most number left >>= λ g. groups_at most n g.1 >>= λ gs. Ok (g.0 ∷ gs.0, gs.1))) other
    ∙ ap (λ r. r >>= λ g. groups_at most n g.1 >>= λ gs. Ok (g.0 ∷ gs.0, gs.1)) read

pub groups_over : (most i : ℕ) (rest : List ℕ) → most ≤ i → groups_at most (most - i) rest ≡ Err TooLarge
unfolding groups_at
groups_over most i rest le = let k : most - i ≡ zero = omega (arith, le) in ap (λ m. groups_at most m rest) k

-- ---- tests

pub not_true : (b : Bool) → not b ≡ true → b ≡ false
not_true true h = absurd cc
not_true false h = refl

pub not_false : (b : Bool) → not b ≡ false → b ≡ true
not_false true h = refl
not_false false h = absurd cc

pub checked_not : {A : Type 0} (fault : DecodeFault) (passes : Bool) (x : A) → passes ≡ false → checked fault passes x ≡ Err fault
unfolding checked
checked_not fault passes x is = ap (λ b. cond b (Ok x) (Err fault)) is
