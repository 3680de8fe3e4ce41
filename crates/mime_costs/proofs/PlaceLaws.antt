-- The positions of the sources that accept a type.
use Rattle.std.proofs.Common.{◌≡◌, ℕ, ◌<◌, ◌≤◌, Bool, true, false, ◌||◌, List, [], length, get_or, eqb, refl, ap, sym, ◌∙◌, arith, eq-eqb, ◌+◌, below_more, inl, inr}
use Rattle.std.proofs.lemmas.Bool.{ne_eqb, both_ways, cases_lt}
use Rattle.std.proofs.lemmas.List.{length-map, get_or-map}
use Rattle.std.proofs.lemmas.List.Sums.{passes_at_first, fails_before_first, position_or_len_is}
use Rattle.std.specs.List.{Contains}
use Rattle.std.specs.Cmp.Lexicographic.{same_text, bytes_decides}
use Rattle.mime_costs.specs.Conversions.{same, matches, super_source, every_type}
use Rattle.mime_costs.specs.SourceIndex.{source_of, sources_of, position_in, positions_in}
use Rattle.mime_costs.specs.Costs.{is_taken}
use Rattle.mime_costs.specs.declared.conversion.Conversion.{Conversion}

pub same-refl : (text : List ℕ) → same text text ≡ true
same-refl text = (bytes_decides text text).1 refl

pub same-eq : (text other : List ℕ) → same text other ≡ true → text ≡ other
same-eq text other h = same_text text other (sym h)

-- A source that exists is before the end.
inside : (sources : List (List ℕ)) (source : List ℕ) (k : ℕ) → k < length sources → get_or sources k source ≡ source → position_in sources source < length sources
inside sources source k less is =
    elim (cases_lt (position_in sources source) (length sources)) [
      | inl h ↦ h
      | inr h ↦ absurd (both_ways (same (get_or sources k source) source)
          (fails_before_first (λ other. same other source) sources k source (omega arith))
          (ap (λ s. same s source) is ∙ same-refl source))
    ]

-- The source is at its position.
at_place : (sources : List (List ℕ)) (source d : List ℕ) → position_in sources source < length sources → get_or sources (position_in sources source) d ≡ source
at_place sources source d less = same-eq _ source (passes_at_first (λ other. same other source) sources d less)

-- Two sources have the same position exactly if they are equal.
pub same_place : (sources : List (List ℕ)) (source other : List ℕ) → Contains sources source → eqb (position_in sources source) (position_in sources other) ≡ same source other
same_place sources source other (k, less, is) =
    let here : position_in sources source < length sources = inside sources source k less is in
    (elim (same source other) as (λ v. same source other ≡ v → eqb (position_in sources source) (position_in sources other) ≡ v) [
      | true ↦ λ h. eq-eqb _ _ (ap (position_in sources) (same-eq source other h))
      | false ↦ λ h. ne_eqb _ _ (λ e.
          let there : position_in sources other < length sources = omega (arith, e) in
          both_ways (same source other) h
          (ap (λ s. same s other) (sym (at_place sources source [] here) ∙ ap (λ n. get_or sources n []) e ∙ at_place sources other [] there) ∙ same-refl other))
    ]) refl

-- A conversion's source is among the sources.
pub source_there : (file : List Conversion) (c : Conversion) → Contains file c → Contains (sources_of file) c.source
source_there file c (k, less, is) =
    let short : k < length (sources_of file) = omega (arith, length-map file source_of) in
    (k, short, get_or-map source_of file k c c.source less ∙ ap source_of is)

-- The conversions at the positions of a type are the conversions that accept it.
pub taken_matches : (file : List Conversion) (media : List ℕ) (c : Conversion) → Contains file c → is_taken file (positions_in (sources_of file) media) c ≡ matches c.source media
taken_matches file media c there =
    let sources = sources_of file in
    let in_sources : Contains sources c.source = source_there file c there in
    three (same_place sources c.source media in_sources) (same_place sources c.source (super_source media) in_sources) (same_place sources c.source every_type in_sources)
  where
    three : {a b c x y z : Bool} → a ≡ x → b ≡ y → c ≡ z → (a || b || c) ≡ (x || y || z)
    three p q r = cc

-- A conversion's group is a group of the file.
pub source_place : (file : List Conversion) (i : ℕ) (d : Conversion) → i < length file → position_in (sources_of file) (get_or file i d).source < length file
source_place file i d less =
    let short = length-map file source_of in
    let l : i < length (sources_of file) = omega arith in
    let p = inside (sources_of file) (get_or file i d).source i l (get_or-map source_of file i d (get_or file i d).source less) in
    omega arith

-- The loop that searches for a source.
module _ (file : List Conversion) (source : List ℕ) (i : ℕ) where
  pub place_found : (x : Conversion) → i < length file → x ≡ get_or file i x → same x.source source ≡ true → ((k : ℕ) → k < i → same (get_or (sources_of file) k []) source ≡ false) → i ≡ position_in (sources_of file) source
  place_found x less here is before =
      let long = length-map file source_of in
      sym (position_or_len_is (λ other. same other source) (sources_of file) i [] (omega arith) before
      (λ l. ap (λ s. same s source) (get_or-map source_of file i x [] less ∙ ap source_of (sym here)) ∙ is))

  pub place_more : (x : Conversion) → i < length file → x ≡ get_or file i x → same x.source source ≡ false → ((k : ℕ) → k < i → same (get_or (sources_of file) k []) source ≡ false) → (k : ℕ) → k < i + 1 → same (get_or (sources_of file) k []) source ≡ false
  place_more x less here is before =
      below_more (λ k. same (get_or (sources_of file) k []) source ≡ false) i before (ap (λ s. same s source) (get_or-map source_of file i x [] less ∙ ap source_of (sym here)) ∙ is)

  pub place_none : length file ≤ i → i ≤ length file → ((k : ℕ) → k < i → same (get_or (sources_of file) k []) source ≡ false) → length file ≡ position_in (sources_of file) source
  place_none le ge before =
      let long = length-map file source_of in
      let e : length file ≡ i = omega arith in
      e ∙ sym (position_or_len_is (λ other. same other source) (sources_of file) i [] (omega arith) before (λ l. absurd (omega arith)))
