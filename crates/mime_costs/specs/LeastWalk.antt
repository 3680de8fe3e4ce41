-- All walks, the least of them, and its filters: simple and slow, and independent of the search.
use Rattle.std.specs.Prelude.{ℕ, zero, suc, Bool, not, cond, List, [], ◌∷◌, ◌++◌, map, codes, Option, None, Some, refl}
use Rattle.std.specs.List.{filter, flat_map, fold}
use Rattle.std.specs.Option.{option_map}
use Rattle.std.specs.Coded.{Coded, code_by, coded×, coded_ℕ, coded_list}
use Rattle.mime_costs.specs.Conversions.{same, matches}
use Rattle.mime_costs.specs.Walks.{most_lines, worth_of, beats}
use Rattle.mime_costs.specs.declared.conversion.Conversion.{Conversion}

-- The conversions that accept a type.
abbrev pub that_take : List ℕ → List Conversion → List Conversion
that_take media file = filter (λ c. matches c.source media) file

-- All walks of n lines: of no lines from a type to itself, otherwise a conversion and a walk from its destination.
unfoldable pub walks : List Conversion → ℕ → List ℕ → List ℕ → List (List Conversion)
walks file zero from to = cond (same from to) ([] ∷ []) []
walks file (suc n) from to = flat_map (λ c. map (λ walk. c ∷ walk) (walks file n c.destination to)) (that_take from file)

-- All walks of at most n lines.
unfoldable pub walks_within : List Conversion → ℕ → List ℕ → List ℕ → List (List Conversion)
walks_within file zero from to = walks file zero from to
walks_within file (suc n) from to = walks_within file n from to ++ walks file (suc n) from to

-- The first of two walks, unless the second beats it.
abbrev pub better_walk : List Conversion → List Conversion → List Conversion
better_walk walk other = cond (beats (worth_of other) (worth_of walk)) other walk

-- The first of these walks that no other beats.
abbrev pub least_of_walks : List (List Conversion) → Option (List Conversion)
least_of_walks [] = None
least_of_walks (walk ∷ others) = Some (fold better_walk walk others)

-- The least walk from one type to another.
unfoldable pub least_walk : List Conversion → List ℕ → List ℕ → Option (List Conversion)
least_walk file from to = least_of_walks (walks_within file most_lines from to)

-- ## Its filters

-- `-`, which runs no program.
abbrev pub no_filter : List ℕ
no_filter = codes "-"

abbrev pub filter_of : Conversion → List ℕ
filter_of c = c.filter

abbrev pub has_filter : Conversion → Bool
has_filter c = not (same c.filter no_filter)

-- The programs that a walk runs, in order.
abbrev pub filters_of : List Conversion → List (List ℕ)
filters_of walk = map filter_of (filter has_filter walk)

-- The programs of the least walk from one type to another, if any exists.
abbrev pub filters_between : List Conversion → List ℕ → List ℕ → Option (List (List ℕ))
filters_between file from to = option_map filters_of (least_walk file from to)

-- ## Coding of conversions, for a value that contains them

abbrev pub conversion_code : Coded Conversion
conversion_code =
    code_by (ℕ × (List ℕ × (List ℕ × (ℕ × List ℕ)))) (coded× coded_ℕ (coded× (coded_list coded_ℕ) (coded× (coded_list coded_ℕ) (coded× coded_ℕ (coded_list coded_ℕ)))))
    (λ c. (c.line, (c.source, (c.destination, (c.cost, c.filter)))))
    (λ p. record { line = p.0; source = p.1.0; destination = p.1.1.0; cost = p.1.1.1.0; filter = p.1.1.1.1 })
    (λ _. refl)

abbrev pub convs_code : Coded (List Conversion)
convs_code = coded_list conversion_code
