-- Each walk is listed, and no walk beats the least walk.
use Rattle.std.proofs.Common.{take, ◌≡◌, ℕ, suc, zero, ◌+◌, ◌<◌, ◌≤◌, Bool, true, false, cond, List, [], ◌∷◌, ◌++◌, length, get_or, map, refl, ap, sym, ◌∙◌, arith, subst, Option, None, Some, ◌⊎◌, inl, inr}
use Rattle.std.proofs.lemmas.Bool.{both_ways, cases_eq}
use Rattle.std.proofs.lemmas.List.{length-map, get_or-map, map-append}
use Rattle.std.proofs.lemmas.List.Elements.{filter_more, Contains-append_left, Contains-append_right, Contains-append_cases}
use Rattle.std.specs.List.{All, Contains, filter, flat_map, fold}
use Rattle.std.specs.Prelude.{not, Result, Ok, Err, IfOk}
use Rattle.std.specs.Option.{option_map}
use Rattle.std.specs.declared.alloc.AllocError.{AllocError}
use Rattle.mime_costs.specs.Conversions.{same, matches}
use Rattle.mime_costs.specs.Walks.{line_of, Leads, IsWalk, IsLeast, IsApart, most_lines, worth_of, beats}
use Rattle.mime_costs.specs.LeastWalk.{filter_of, has_filter, no_filter, filters_of, filters_between, that_take, walks, walks_within, better_walk, least_of_walks, least_walk}
use Rattle.mime_costs.specs.ConversionFields.{worth_of_chain, IsAnswer}
use Rattle.mime_costs.specs.declared.chain.Chain.{Chain}
use Rattle.mime_costs.specs.declared.conversion.Conversion.{Conversion}
use Rattle.mime_costs.proofs.PlaceLaws.{same-refl, same-eq}
use Rattle.mime_costs.proofs.BestLaws.{not_better}
use Rattle.mime_costs.proofs.OrderLaws.{beats-cases, beats-irreflexive, beats-asymmetric, unbeaten-transitive}

-- ## The members of a list

first_there : {X : Type 0} (x : X) (xs : List X) → Contains (x ∷ xs) x
first_there x xs = (zero, omega arith, refl)

further_there : {X : Type 0} (x y : X) (xs : List X) → Contains xs y → Contains (x ∷ xs) y
further_there x y xs (k, less, is) = (suc k, omega arith, is)

there_cases : {X : Type 0} (x y : X) (xs : List X) → Contains (x ∷ xs) y → (x ≡ y) ⊎ Contains xs y
there_cases x y xs (zero, less, is) = inl is
there_cases x y xs (suc k, less, is) = inr (k, omega arith, is)

none_there : {X : Type 0} (y : X) → Contains [] y → ⊥
none_there y (k, less, is) = omega arith

there_mapped : {X Y : Type 0} (f : X → Y) (xs : List X) (x : X) → Contains xs x → Contains (map f xs) (f x)
there_mapped f [] x h = absurd (none_there x h)
there_mapped f (z ∷ xs) x h =
    elim (there_cases z x xs h) [
      | inl e ↦ subst (λ y. Contains (f z ∷ map f xs) (f y)) e (first_there (f z) (map f xs))
      | inr t ↦ further_there (f z) (f x) (map f xs) (there_mapped f xs x t)
    ]

mapped_from : {X Y : Type 0} (f : X → Y) (xs : List X) (y : Y) → Contains (map f xs) y → (x : X) × Contains xs x × (f x ≡ y)
mapped_from f [] y h = absurd (none_there y h)
mapped_from f (z ∷ xs) y h = from (λ t. mapped_from f xs y t) (there_cases (f z) y (map f xs) h)
  where
    from : (Contains (map f xs) y → (x : _) × Contains xs x × (f x ≡ y)) → (f z ≡ y) ⊎ Contains (map f xs) y → (x : _) × Contains (z ∷ xs) x × (f x ≡ y)
    from rest (inl e) = (z, first_there z xs, e)
    from rest (inr t) = (let (x, there, is) = rest t in (x, further_there z x xs there, is))

there_kept : {X : Type 0} (p : X → Bool) (xs : List X) (x : X) → Contains xs x → p x ≡ true → Contains (filter p xs) x
there_kept p [] x h passes = absurd (none_there x h)
there_kept p (z ∷ xs) x h passes = kept (λ t. there_kept p xs x t passes) (p z) refl (there_cases z x xs h)
  where
    kept : (Contains xs x → Contains (filter p xs) x) → (v : Bool) → p z ≡ v → (z ≡ x) ⊎ Contains xs x → Contains (cond v (z ∷ filter p xs) (filter p xs)) x
    kept rest true t (inl e) = subst (λ y. Contains (z ∷ filter p xs) y) e (first_there z (filter p xs))
    kept rest true t (inr h) = further_there z x (filter p xs) (rest h)
    kept rest false f (inl e) = absurd (both_ways (p x) (ap p (sym e) ∙ f) passes)
    kept rest false f (inr h) = rest h

kept_from : {X : Type 0} (p : X → Bool) (xs : List X) (x : X) → Contains (filter p xs) x → Contains xs x × (p x ≡ true)
kept_from p [] x h = absurd (none_there x h)
kept_from p (z ∷ xs) x h = from (λ t. kept_from p xs x t) (p z) refl h
  where
    from : (Contains (filter p xs) x → Contains xs x × (p x ≡ true)) → (v : Bool) → p z ≡ v → Contains (cond v (z ∷ filter p xs) (filter p xs)) x → Contains (z ∷ xs) x × (p x ≡ true)
    from rest true t h =
        elim (there_cases z x (filter p xs) h) [
          | inl e ↦ (subst (λ y. Contains (z ∷ xs) y) e (first_there z xs), ap p (sym e) ∙ t)
          | inr r ↦ (let (there, passes) = rest r in (further_there z x xs there, passes))
        ]
    from rest false f h = (let (there, passes) = rest h in (further_there z x xs there, passes))

there_joined : {X A : Type 0} (f : X → List A) (xs : List X) (x : X) (a : A) → Contains xs x → Contains (f x) a → Contains (flat_map f xs) a
there_joined f [] x a h there = absurd (none_there x h)
there_joined f (z ∷ xs) x a h there =
    elim (there_cases z x xs h) [
      | inl e ↦ Contains-append_left (f z) (flat_map f xs) a (subst (λ y. Contains (f y) a) (sym e) there)
      | inr t ↦ Contains-append_right (f z) (flat_map f xs) a (there_joined f xs x a t there)
    ]

joined_from : {X A : Type 0} (f : X → List A) (xs : List X) (a : A) → Contains (flat_map f xs) a → (x : X) × Contains xs x × Contains (f x) a
joined_from f [] a h = absurd (none_there a h)
joined_from f (z ∷ xs) a h = from (λ t. joined_from f xs a t) (Contains-append_cases (f z) (flat_map f xs) a h)
  where
    from : (Contains (flat_map f xs) a → (x : _) × Contains xs x × Contains (f x) a) → Contains (f z) a ⊎ Contains (flat_map f xs) a → (x : _) × Contains (z ∷ xs) x × Contains (f x) a
    from rest (inl t) = (z, first_there z xs, t)
    from rest (inr t) = (let (x, there, is) = rest t in (x, further_there z x xs there, is))

-- ## All walks

-- A listed walk is a walk.
walks_lead : (file : List Conversion) (n : ℕ) (from to : List ℕ) (walk : List Conversion) → Contains (walks file n from to) walk → Leads file from walk to × (length walk ≡ n)
unfolding walks
walks_lead file zero from to walk h = empty (same from to) refl h
  where
    empty : (v : Bool) → same from to ≡ v → Contains (cond v ([] ∷ []) []) walk → Leads file from walk to × (length walk ≡ 0)
    empty true e h =
        elim (there_cases [] walk [] h) [
          | inl is ↦ subst (λ w. Leads file from w to × (length w ≡ 0)) is (same-eq from to e, refl)
          | inr t ↦ absurd (none_there walk t)
        ]
    empty false e h = absurd (none_there walk h)
walks_lead file (suc n) from to walk h =
    first (λ c rest listed. walks_lead file n c.destination to rest listed) (joined_from (λ c. map (λ walk. c ∷ walk) (walks file n c.destination to)) (that_take from file) walk h)
  where
    behind : ((c : Conversion) (rest : List Conversion) → Contains (walks file n c.destination to) rest → Leads file c.destination rest to × (length rest ≡ n)) → (c : Conversion) → Contains file c × (matches c.source from ≡ true) → (rest : List Conversion) × Contains (walks file n c.destination to) rest × (c ∷ rest ≡ walk) → Leads file from walk to × (length walk ≡ suc n)
    behind below c (there, takes) (rest, listed, is) =
        let (leads, count) = below c rest listed in
        subst (λ w. Leads file from w to × (length w ≡ suc n)) is ((there, takes, leads), ap suc count)

    first : ((c : Conversion) (rest : List Conversion) → Contains (walks file n c.destination to) rest → Leads file c.destination rest to × (length rest ≡ n)) → (c : Conversion) × Contains (that_take from file) c × Contains (map (λ walk. c ∷ walk) (walks file n c.destination to)) walk → Leads file from walk to × (length walk ≡ suc n)
    first below (c, taken, begun) = behind below c (kept_from (λ c. matches c.source from) file c taken) (mapped_from (λ walk. c ∷ walk) (walks file n c.destination to) walk begun)

-- Each walk is listed.
walks_all : (file : List Conversion) (from to : List ℕ) (walk : List Conversion) → Leads file from walk to → Contains (walks file (length walk) from to) walk
unfolding walks
walks_all file from to [] is = subst (λ v. Contains {X = List Conversion} (cond v ([] ∷ []) []) []) (sym (ap (same from) (sym is) ∙ same-refl from)) (first_there [] [])
walks_all file from to (c ∷ walk) (there, takes, leads) =
    there_joined (λ c. map (λ walk. c ∷ walk) (walks file (length walk) c.destination to)) (that_take from file) c (c ∷ walk)
    (there_kept (λ c. matches c.source from) file c there takes)
    (there_mapped (λ walk. c ∷ walk) (walks file (length walk) c.destination to) walk (walks_all file c.destination to walk leads))

-- The same up to a length.
within_lead : (file : List Conversion) (n : ℕ) (from to : List ℕ) (walk : List Conversion) → Contains (walks_within file n from to) walk → Leads file from walk to × (length walk ≤ n)
unfolding walks_within
within_lead file zero from to walk h = (let (leads, count) = walks_lead file zero from to walk h in (leads, omega arith))
within_lead file (suc n) from to walk h =
    elim (Contains-append_cases (walks_within file n from to) (walks file (suc n) from to) walk h) [
      | inl t ↦ (let (leads, short) = within_lead file n from to walk t in (leads, omega arith))
      | inr t ↦ (let (leads, count) = walks_lead file (suc n) from to walk t in (leads, omega arith))
    ]

within_all : (file : List Conversion) (n : ℕ) (from to : List ℕ) (walk : List Conversion) → Leads file from walk to → length walk ≤ n → Contains (walks_within file n from to) walk
unfolding walks_within
within_all file zero from to walk leads short = subst (λ k. Contains (walks file k from to) walk) (let e : length walk ≡ zero = omega arith in e) (walks_all file from to walk leads)
within_all file (suc n) from to walk leads short =
    elim (cases_eq (length walk) (suc n)) [
      | inl e ↦ Contains-append_right (walks_within file n from to) (walks file (suc n) from to) walk (subst (λ k. Contains (walks file k from to) walk) e (walks_all file from to walk leads))
      | inr other ↦ Contains-append_left (walks_within file n from to) (walks file (suc n) from to) walk (within_all file n from to walk leads (omega arith))
    ]

-- ## The least of a list

record IsLeastOf (walks : List (List Conversion)) (walk : List Conversion) : Type 0 where
  there : Contains walks walk
  least : (other : List Conversion) → Contains walks other → beats (worth_of other) (worth_of walk) ≡ false

-- The better of the two walks, and the least of it and the others.
fold_least : (walk : List Conversion) (others : List (List Conversion)) → IsLeastOf (walk ∷ others) (fold better_walk walk others)
fold_least walk [] = record {
  there = first_there walk [];
  least = λ other h. elim (there_cases walk other [] h) [
    | inl e ↦ ap (λ w. beats (worth_of w) (worth_of walk)) (sym e) ∙ beats-irreflexive (worth_of walk)
    | inr t ↦ absurd (none_there other t)
  ];
}
fold_least walk (next ∷ others) = choose (λ first. fold_least first others) (beats (worth_of next) (worth_of walk)) refl
  where
    choose : ((first : List Conversion) → IsLeastOf (first ∷ others) (fold better_walk first others)) → (v : Bool) → beats (worth_of next) (worth_of walk) ≡ v → IsLeastOf (walk ∷ next ∷ others) (fold better_walk (cond v next walk) others)
    choose below true wins =
        let rest = below next in
        record {
          there = further_there walk (fold better_walk next others) (next ∷ others) rest.there;
          least = λ other h. elim (there_cases walk other (next ∷ others) h) [
            | inl e ↦ subst (λ w. beats (worth_of w) (worth_of (fold better_walk next others)) ≡ false) e
                (unbeaten-transitive (worth_of walk) (worth_of next) (worth_of (fold better_walk next others)) (beats-asymmetric (worth_of walk) (worth_of next) wins) (rest.least next (first_there next others)))
            | inr t ↦ rest.least other t
          ];
        }
    choose below false loses =
        let rest = below walk in
        record {
          there = elim (there_cases walk (fold better_walk walk others) others rest.there) [
            | inl e ↦ subst (λ w. Contains (walk ∷ next ∷ others) w) e (first_there walk (next ∷ others))
            | inr t ↦ further_there walk (fold better_walk walk others) (next ∷ others) (further_there next (fold better_walk walk others) others t)
          ];
          least = λ other h. elim (there_cases walk other (next ∷ others) h) [
            | inl e ↦ subst (λ w. beats (worth_of w) (worth_of (fold better_walk walk others)) ≡ false) e (rest.least walk (first_there walk others))
            | inr t ↦ elim (there_cases next other others t) [
              | inl e ↦ subst (λ w. beats (worth_of w) (worth_of (fold better_walk walk others)) ≡ false) e
                  (unbeaten-transitive (worth_of next) (worth_of walk) (worth_of (fold better_walk walk others)) loses (rest.least walk (first_there walk others)))
              | inr s ↦ rest.least other (further_there walk other others s)
            ]
          ];
        }

least_of-some : (walks : List (List Conversion)) (walk : List Conversion) → least_of_walks walks ≡ Some walk → IsLeastOf walks walk
least_of-some [] walk h = absurd (cc)
least_of-some (first ∷ others) walk h = subst (IsLeastOf (first ∷ others)) (let e : fold better_walk first others ≡ walk = cc in e) (fold_least first others)

least_of-none : (walks : List (List Conversion)) (walk : List Conversion) → least_of_walks walks ≡ None → Contains walks walk → ⊥
least_of-none [] walk h there = none_there walk there
least_of-none (first ∷ others) walk h there = absurd (cc)

-- ## The least walk

module _ (file : List Conversion) (from to : List ℕ) where
  pub least_is_walk : (walk : List Conversion) → least_walk file from to ≡ Some walk → IsWalk file from to walk
  unfolding least_walk
  least_is_walk walk h =
      let (leads, short) = within_lead file most_lines from to walk (least_of-some (walks_within file most_lines from to) walk h).there in
      record { leads = leads; short = short }

  pub least_is_least : (walk : List Conversion) → least_walk file from to ≡ Some walk → IsLeast file from to (worth_of walk)
  unfolding least_walk
  least_is_least walk h other is = (least_of-some (walks_within file most_lines from to) walk h).least other (within_all file most_lines from to other is.leads is.short)

  pub none_is_apart : least_walk file from to ≡ None → IsApart file from to
  unfolding least_walk
  none_is_apart h walk is = least_of-none (walks_within file most_lines from to) walk h (within_all file most_lines from to walk is.leads is.short)

-- The result of a search among all walks has the worth of the least walk.
pub answer_worth : (file : List Conversion) (from to : List ℕ) (answer : Option Chain) → IsAnswer file from to answer → option_map worth_of_chain answer ≡ option_map worth_of (least_walk file from to)
answer_worth file from to None apart = none (least_walk file from to) refl
  where
    none : (o : Option (List Conversion)) → least_walk file from to ≡ o → option_map worth_of_chain None ≡ option_map worth_of o
    none None e = refl
    none (Some walk) e = absurd (apart walk (least_is_walk file from to walk e))
answer_worth file from to (Some chain) ((reached, is, worth), least) = some (least_walk file from to) refl
  where
    equal : (walk : List Conversion) → least_walk file from to ≡ Some walk → (worth_of_chain chain ≡ worth_of walk) ⊎ ((beats (worth_of_chain chain) (worth_of walk) ≡ true) ⊎ (beats (worth_of walk) (worth_of_chain chain) ≡ true)) → worth_of_chain chain ≡ worth_of walk
    equal walk e (inl is) = is
    equal walk e (inr (inl wins)) = absurd (both_ways (beats (worth_of reached) (worth_of walk)) (least_is_least file from to walk e reached is) (ap (λ w. beats w (worth_of walk)) worth ∙ wins))
    equal walk e (inr (inr wins)) = absurd (both_ways (beats (worth_of walk) (worth_of_chain chain)) (least walk (least_is_walk file from to walk e)) wins)

    some : (o : Option (List Conversion)) → least_walk file from to ≡ o → option_map worth_of_chain (Some chain) ≡ option_map worth_of o
    some None e = absurd (none_is_apart file from to e reached is)
    some (Some walk) e = ap Some (equal walk e (beats-cases (worth_of_chain chain) (worth_of walk)))

-- The walk of no lines is the least from a type to itself.
pub empty_worth : (file : List Conversion) (from to : List ℕ) (chain : Chain) → from ≡ to → worth_of_chain chain ≡ worth_of [] → option_map worth_of_chain (Some chain) ≡ option_map worth_of (least_walk file from to)
empty_worth file from to chain here worth =
    answer_worth file from to (Some chain) (
      ([], record { leads = here; short = omega arith }, sym worth),
      λ walk is. subst (λ w. beats (worth_of walk) w ≡ false) (sym worth) (not_better (worth_of walk) (worth_of []) (omega arith) (λ _. omega arith) (λ _ _. refl)),
    )

pub chain_worth : (file : List Conversion) (from to : List ℕ) (answer : Result (Option Chain) AllocError) → IfOk answer (IsAnswer file from to) → IfOk answer (λ found. option_map worth_of_chain found ≡ option_map worth_of (least_walk file from to))
chain_worth file from to (Err e) h = tt
chain_worth file from to (Ok found) h = answer_worth file from to found h

-- ## The conversions of the lines

-- A line of the file is found.
pub missed : (file : List Conversion) (line n : ℕ) → Contains (map line_of file) line → length file ≤ n → ((k : ℕ) (d : Conversion) → k < n → (get_or file k d).line ≡ line → ⊥) → ⊥
missed file line n there all none = at (mapped_from line_of file line there)
  where
    at : (c : Conversion) × Contains file c × (c.line ≡ line) → ⊥
    at (c, (k, less, is), same) = none k c (omega arith) (ap line_of is ∙ same)

-- Some conversion of a walk that is not empty.
some_of : (walk : List Conversion) (i : ℕ) → i < length walk → Conversion
some_of [] i less = absurd (omega arith)
some_of (c ∷ walk) i less = c

-- The programs of one more conversion.
filters_further : (walk : List Conversion) (i : ℕ) (d : Conversion) → i < length walk → filters_of (take (i + 1) walk) ≡ filters_of (take i walk) ++ filters_of (get_or walk i d ∷ [])
filters_further walk i d less = ap (map filter_of) (filter_more has_filter walk i d less) ∙ map-append filter_of (filter has_filter (take i walk)) (filter has_filter (get_or walk i d ∷ []))

module _ (file : List Conversion) (lines : List ℕ) (i : ℕ) (name : List ℕ) (less : i < length lines) (named : (c : Conversion) → Contains file c → c.line ≡ get_or lines i 0 → name ≡ c.filter) (walk : List Conversion) (there : All (Contains file) walk) (lined : map line_of walk ≡ lines) where
  within : i < length walk
  within = let l : length (map line_of walk) ≡ length walk = length-map walk line_of in let e : length (map line_of walk) ≡ length lines = ap length lined in omega arith

  next : Conversion
  next = get_or walk i (some_of walk i within)

  name_is : name ≡ next.filter
  unfolding next
  name_is = let d = some_of walk i within in named (get_or walk i d) (there i d within) (sym (get_or-map line_of walk i d 0 within) ∙ ap (λ l. get_or l i 0) lined)

  next_filters : (v : Bool) → not (same name no_filter) ≡ v → filters_of (next ∷ []) ≡ cond v (name ∷ []) []
  next_filters v is = ap (λ t. map filter_of (cond t (next ∷ []) [])) (ap (λ n. not (same n no_filter)) (sym name_is) ∙ is) ∙ of_cond v
    where
      of_cond : (v : Bool) → map filter_of (cond v (next ∷ []) []) ≡ cond v (name ∷ []) []
      of_cond true = ap (λ n. n ∷ []) (sym name_is)
      of_cond false = refl

  -- The programs of the lines so far, and of the next.
  pub filters_more : (v : Bool) (names : List (List ℕ)) → not (same name no_filter) ≡ v → names ≡ filters_of (take i walk) → names ++ cond v (name ∷ []) [] ≡ filters_of (take (i + 1) walk)
  unfolding next
  filters_more v names is so_far =
      ap (λ l. l ++ cond v (name ∷ []) []) so_far ∙ ap (λ l. filters_of (take i walk) ++ l) (sym (next_filters v is)) ∙ sym (filters_further walk i (some_of walk i within) within)

-- The conversions of a walk are conversions of the file.
walk_there : (file : List Conversion) (from : List ℕ) (walk : List Conversion) (to : List ℕ) → Leads file from walk to → All (Contains file) walk
walk_there file from [] to leads k d less = absurd (omega arith)
walk_there file from (c ∷ walk) to (there, takes, leads) zero d less = there
walk_there file from (c ∷ walk) to (there, takes, leads) (suc k) d less = walk_there file c.destination walk to leads k d (omega arith)

-- The programs of the least walk, by its lines.
pub filters_found : (file : List Conversion) (from to : List ℕ) (chain : Chain) (names : List (List ℕ)) → Some (worth_of_chain chain) ≡ option_map worth_of (least_walk file from to)
    → ((walk : List Conversion) → All (Contains file) walk → map line_of walk ≡ chain.lines.items → names ≡ filters_of walk) → Some names ≡ filters_between file from to
filters_found file from to chain names is named = found (least_walk file from to) refl is
  where
    found : (o : Option (List Conversion)) → least_walk file from to ≡ o → Some (worth_of_chain chain) ≡ option_map worth_of o → Some names ≡ option_map filters_of o
    found None e is = absurd (cc)
    found (Some walk) e is =
        let worth : worth_of_chain chain ≡ worth_of walk = cc in
        ap Some (named walk (walk_there file from walk to (least_is_walk file from to walk e).leads) (sym (ap (λ w. w.lines) worth)))
