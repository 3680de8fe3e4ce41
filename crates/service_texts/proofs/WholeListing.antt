-- The pieces of a listing make the whole listing.
use Rattle.std.proofs.Common.{◌≡◌, ℕ, ◌-◌, ◌<◌, Bool, true, false, ◌||◌, cond, List, [], ◌∷◌, ◌++◌, map, filter, Option, None, Some, refl, sym, ap, ◌∙◌, arith}
use Rattle.std.specs.Prelude.{nat_eq}
use Rattle.std.specs.List.Sorted.{IsStrictlyIncreasing, IsStrictlySortedBy}
use Rattle.std.proofs.lemmas.Bool.{le-leb, lt-leb}
use Rattle.std.proofs.lemmas.Map.Keys.{sorted_from_strictly_increasing}
use Rattle.spool_types.specs.State.{Job}
use Rattle.service_texts.specs.Listings.{Piece, fewer, following, jobs_from, piece_of, with_first}
use Rattle.service_texts.proofs.RowsFrom.{AllAbove, IsRising, is_less, keeps_all, number_of}

-- The next number of the listing, if any, is above this number.
abbrev IsBeyond : ℕ → Option ℕ → Type 0
IsBeyond k None = Unit {0}
IsBeyond k (Some n) = k < n

module _ (passes : Job → Bool) where
  beyond : (k most left : ℕ) (rows : List Job) → AllAbove k rows → IsBeyond k (piece_of passes most left rows).next
  beyond k most left [] above = tt
  beyond k most left (r ∷ rs) above = by_test (nat_eq most 0 || nat_eq left 0) (beyond k (fewer (passes r) most) (left - 1) rs above.1)
    where
      with_or_without : (b : Bool) → IsBeyond k (piece_of passes (fewer (passes r) most) (left - 1) rs).next → IsBeyond k (with_first b r (piece_of passes (fewer (passes r) most) (left - 1) rs)).next
      with_or_without true h = h
      with_or_without false h = h

      by_test : (b : Bool) → IsBeyond k (piece_of passes (fewer (passes r) most) (left - 1) rs).next → IsBeyond k (cond b (record { jobs = []; next = Some r.id }) (with_first (passes r) r (piece_of passes (fewer (passes r) most) (left - 1) rs))).next
      by_test true later = is_less k r.id above.0
      by_test false later = with_or_without (passes r) later

  -- A first row that is not followed.
  not_followed : (r : Job) (rs : List Job) (o : Option ℕ) → IsBeyond r.id o → following o (r ∷ rs) ≡ following o rs
  not_followed r rs None lt = refl
  not_followed r rs (Some n) lt = ap (λ b. cond b (r ∷ jobs_from n rs) (jobs_from n rs)) (lt-leb n r.id lt)

  abbrev IsAll : Piece → List Job → Type 0
  IsAll piece rows = filter passes rows ≡ piece.jobs ++ filter passes (following piece.next rows)

  -- One more job, which is added if it passes.
  more : (b : Bool) (r : Job) (rs : List Job) (piece : Piece) → IsAll piece rs → following piece.next (r ∷ rs) ≡ following piece.next rs →
      cond b (r ∷ filter passes rs) (filter passes rs) ≡ (with_first b r piece).jobs ++ filter passes (following (with_first b r piece).next (r ∷ rs))
  more true r rs piece all skip = ap (λ (qs : List Job). r ∷ qs) (all ∙ ap (λ (qs : List Job). piece.jobs ++ filter passes qs) (sym skip))
  more false r rs piece all skip = all ∙ ap (λ (qs : List Job). piece.jobs ++ filter passes qs) (sym skip)

  -- The listing goes on with the first job.
  stopped : (r : Job) (rs : List Job) → AllAbove r.id rs → IsAll (record { jobs = []; next = Some r.id }) (r ∷ rs)
  stopped r rs above =
      ap (filter passes) (sym (ap (λ b. cond b (r ∷ jobs_from r.id rs) (jobs_from r.id rs)) (le-leb r.id r.id (omega arith)) ∙ ap (λ (qs : List Job). r ∷ qs) (keeps_all r.id r.id rs (omega arith) above)))

  either_way : (b : Bool) (r : Job) (rs : List Job) (piece : Piece) → IsAll (record { jobs = []; next = Some r.id }) (r ∷ rs) → IsAll piece (r ∷ rs) → IsAll (cond b (record { jobs = []; next = Some r.id }) piece) (r ∷ rs)
  either_way true r rs piece stops goes = stops
  either_way false r rs piece stops goes = goes

  whole_from : (most left : ℕ) (rows : List Job) → IsRising rows → IsAll (piece_of passes most left rows) rows
  unfolding IsStrictlySortedBy
  whole_from most left [] up = refl
  whole_from most left (r ∷ rs) up =
      let piece = piece_of passes (fewer (passes r) most) (left - 1) rs in
      let all = whole_from (fewer (passes r) most) (left - 1) rs up.1 in
      let skip = not_followed r rs piece.next (beyond r.id (fewer (passes r) most) (left - 1) rs up.0) in
      either_way (nat_eq most 0 || nat_eq left 0) r rs (with_first (passes r) r piece) (stopped r rs up.0) (more (passes r) r rs piece all skip)

  pub whole : (most left : ℕ) (rows : List Job) → IsStrictlyIncreasing (map number_of rows) → IsAll (piece_of passes most left rows) rows
  whole most left rows up = whole_from most left rows (sorted_from_strictly_increasing (map number_of rows) up)
