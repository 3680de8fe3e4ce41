-- A piece, one job after another.
use Rattle.std.proofs.Common.{◌≡◌, ℕ, ◌+◌, ◌-◌, ◌<◌, ◌≤◌, Bool, true, false, ◌||◌, cond, List, [], ◌++◌, length, Option, None, Some, map, refl, sym, ap, subst, ◌∙◌, append_assoc, arith}
use Rattle.std.specs.Prelude.{nat_eq}
use Rattle.std.specs.FinMap as finite
use Rattle.std.specs.List.{Contains}
use Rattle.std.proofs.lemmas.Bool.{eqb-true}
use Rattle.std.proofs.lemmas.List.{append-nil}
use Rattle.std.proofs.lemmas.List.Concat.{flat_map-cons}
use Rattle.client_standing.specs.ClientStanding.{ClientStanding}
use Rattle.event_records.specs.declared.seen.JobTimes.{JobTimes}
use Rattle.job_rows.specs.NumberedRows.{first_above}
use Rattle.spool_types.specs.State.{State, Job, job_at}
use Rattle.service_texts.specs.Listings.{Piece, fewer, following, is_row_selected, is_selected, jobs_from, listed, listed_fields, piece_of, row_fields, with_first}
use Rattle.service_texts.specs.Selections.{from_of, most_of}
use Rattle.service_texts.specs.declared.selection.Selection.{Selection}
use Rattle.service_texts.specs.Shown.{hides, job_fields}
use Rattle.service_texts.proofs.RowsFrom.{IsFirst, IsNext, IsRising, follows, next_from, number_of}

-- No further job is added.
abbrev pub ended_at : Option ℕ → Piece
ended_at o = record { jobs = []; next = o }

not_done : (most left : ℕ) → 0 < most → 0 < left → (nat_eq most 0 || nat_eq left 0) ≡ false
not_done most left lt lt' = first (nat_eq most 0) refl
  where
    second : (b : Bool) → nat_eq left 0 ≡ b → b ≡ false
    second true e = let z : left ≡ 0 = eqb-true left 0 e in absurd (omega (arith, z, lt'))
    second false e = refl

    first : (b : Bool) → nat_eq most 0 ≡ b → (b || nat_eq left 0) ≡ false
    first true e = let z : most ≡ 0 = eqb-true most 0 e in absurd (omega (arith, z, lt))
    first false e = second (nat_eq left 0) refl

or_true : (b : Bool) → (b || true) ≡ true
or_true true = refl
or_true false = refl

module _ (passes : Job → Bool) (rows : List Job) where
  -- The piece is full.
  pub full : (left n : ℕ) (o : Option ℕ) → IsNext n rows o → piece_of passes 0 left (following o rows) ≡ ended_at o
  full left n None f = refl
  full left n (Some id) f = ap (piece_of passes 0 left) f.here ∙ ap (λ m. ended_at (Some m)) f.number

  -- Enough jobs were examined.
  pub spent : (most n : ℕ) (o : Option ℕ) → IsNext n rows o → piece_of passes most 0 (following o rows) ≡ ended_at o
  spent most n None f = refl
  spent most n (Some id) f =
      ap (piece_of passes most 0) f.here
      ∙ ap (λ b. cond b (ended_at (Some f.row.id)) (with_first (passes f.row) f.row (piece_of passes (fewer (passes f.row) most) (0 - 1) (jobs_from (id + 1) rows)))) (or_true (nat_eq most 0))
      ∙ ap (λ m. ended_at (Some m)) f.number

  -- One more job is examined.
  pub one_more : (most left n id : ℕ) (o : Option ℕ) (f : IsFirst n rows id) → 0 < most → 0 < left → IsNext (id + 1) rows o →
      piece_of passes most left (following (Some id) rows) ≡ with_first (passes f.row) f.row (piece_of passes (fewer (passes f.row) most) (left - 1) (following o rows))
  one_more most left n id o f lt lt' next =
      let rest = λ (qs : List Job). with_first (passes f.row) f.row (piece_of passes (fewer (passes f.row) most) (left - 1) qs) in
      ap (piece_of passes most left) f.here
      ∙ ap (λ b. cond b (ended_at (Some f.row.id)) (rest (jobs_from (id + 1) rows))) (not_done most left lt lt')
      ∙ ap rest (follows (id + 1) rows o next)

abbrev pub counted : Bool → ℕ
counted b = cond b 1 0

module _ (c : ClientStanding) (times : ℕ → JobTimes) (now : ℕ) where
  abbrev fields : Job → List ℕ
  fields r = job_fields now (hides c r) (times r.id) r

  -- The text of a piece with one more job at its front, or without it.
  pub text_more : (passes : Bool) (r : Job) (piece : Piece) (so_far : List ℕ) →
      so_far ++ listed_fields c times now (with_first passes r piece).jobs ≡ (so_far ++ cond passes (fields r) []) ++ listed_fields c times now piece.jobs
  text_more true r piece so_far = ap (λ (t : List ℕ). so_far ++ t) (flat_map-cons fields r piece.jobs) ∙ sym (append_assoc so_far (fields r) (listed_fields c times now piece.jobs))
  text_more false r piece so_far = ap (λ (t : List ℕ). t ++ listed_fields c times now piece.jobs) (sym (append-nil so_far))

  pub count_more : (passes : Bool) (r : Job) (piece : Piece) (count : ℕ) → count + length (with_first passes r piece).jobs ≡ (count + counted passes) + length piece.jobs
  count_more true r piece count = omega arith
  count_more false r piece count = omega arith

  pub next_more : (passes : Bool) (r : Job) (piece : Piece) → (with_first passes r piece).next ≡ piece.next
  next_more true r piece = refl
  next_more false r piece = refl

-- How many jobs may still be added.
pub fewer_left : (passes : Bool) (most count : ℕ) → count < most → fewer passes (most - count) ≡ most - (count + counted passes)
fewer_left true most count lt = omega arith
fewer_left false most count lt = omega arith

few_more : (passes : Bool) (most count count' : ℕ) → count < most → count' ≡ count + counted passes → count' ≤ most
few_more true most count count' lt is = omega (arith, lt, is)
few_more false most count count' lt is = omega (arith, lt, is)

-- ## A piece so far

module _ (c : ClientStanding) (times : ℕ → JobTimes) (selection : Selection) (s : State) where
  abbrev rows : List Job
  rows = finite.values s.jobs

  abbrev passes : Job → Bool
  passes r = is_selected c selection s.moment r

  abbrev whole : Piece
  whole = listed c selection s

  -- The rest of the piece, by the number of jobs that were added and of those that were examined.
  abbrev rest : ℕ → ℕ → Option ℕ → Piece
  rest count examined next = piece_of passes (most_of selection - count) (1000 - examined) (following next rows)

  abbrev lines : Piece → List ℕ
  lines piece = listed_fields c times s.moment piece.jobs

  -- The text so far and the rest make the whole piece.
  pub record IsSoFar (first text : List ℕ) (count examined : ℕ) (next : Option ℕ) : Type 0 where
    pub from : ℕ
    pub is_next : IsNext from rows next
    pub told : text ++ lines (rest count examined next) ≡ first ++ lines whole
    pub counted : count + length (rest count examined next).jobs ≡ length whole.jobs
    pub goes_on : (rest count examined next).next ≡ whole.next
    pub few : count ≤ most_of selection

  pub begins : (n : ℕ) (text : List ℕ) (next : Option ℕ) → from_of selection ≡ n + 1 → IsRising rows → next ≡ first_above n (map number_of rows) → IsSoFar text text 0 0 next
  begins n text next from up is =
      let at : IsNext (from_of selection) rows next = subst (IsNext (from_of selection) rows) (sym is) (next_from n (from_of selection) rows from up) in
      let all : most_of selection - 0 ≡ most_of selection = omega arith in
      let same : rest 0 0 next ≡ whole = ap (λ m. piece_of passes m 1000 (following next rows)) all ∙ ap (piece_of passes (most_of selection) 1000) (sym (follows (from_of selection) rows next at)) in
      record {
        from = from_of selection;
        is_next = at;
        told = ap (λ (p : Piece). text ++ lines p) same;
        counted = let e = ap (λ (p : Piece). length p.jobs) same in omega (arith, e);
        goes_on = ap (λ (p : Piece). p.next) same;
        few = omega arith;
      }

  -- The piece is whole.
  pub record IsWhole (first text : List ℕ) (count : ℕ) (next : Option ℕ) : Type 0 where
    pub told : text ≡ first ++ lines whole
    pub counted : count ≡ length whole.jobs
    pub goes_on : next ≡ whole.next

  ends_by : (first text : List ℕ) (count examined : ℕ) (next : Option ℕ) → IsSoFar first text count examined next → rest count examined next ≡ ended_at next → IsWhole first text count next
  ends_by first text count examined next so_far is = record {
    told = sym (append-nil text) ∙ ap (λ (p : Piece). text ++ lines p) (sym is) ∙ so_far.told;
    counted = let e = ap (λ (p : Piece). count + length p.jobs) (sym is) ∙ so_far.counted in omega (arith, e);
    goes_on = ap (λ (p : Piece). p.next) (sym is) ∙ so_far.goes_on;
  }

  -- No job follows.
  pub ends_none : (first text : List ℕ) (count examined : ℕ) → IsSoFar first text count examined None → IsWhole first text count None
  ends_none first text count examined so_far = ends_by first text count examined None so_far refl

  -- It is full.
  pub ends_full : (first text : List ℕ) (count examined : ℕ) (next : Option ℕ) → IsSoFar first text count examined next → most_of selection ≤ count → IsWhole first text count next
  ends_full first text count examined next so_far le =
      let none : most_of selection - count ≡ 0 = omega (arith, le) in
      ends_by first text count examined next so_far
      (ap (λ m. piece_of passes m (1000 - examined) (following next rows)) none ∙ full passes rows (1000 - examined) so_far.from next so_far.is_next)

  -- Enough jobs were examined.
  pub ends_spent : (first text : List ℕ) (count : ℕ) (next : Option ℕ) → IsSoFar first text count 1000 next → IsWhole first text count next
  ends_spent first text count next so_far = ends_by first text count 1000 next so_far (spent passes rows (most_of selection - count) so_far.from next so_far.is_next)

  -- The job of this number was examined.
  pub goes : (first text text' : List ℕ) (count count' examined examined' id : ℕ) (next' : Option ℕ) → IsRising rows → ((r : Job) → Contains rows r → job_at s r.id ≡ Some r) →
      IsSoFar first text count examined (Some id) → count < most_of selection → examined < 1000 → examined' ≡ examined + 1 →
      text' ≡ text ++ row_fields c (times id) selection s.moment (job_at s id) → count' ≡ count + counted (is_row_selected c selection s.moment (job_at s id)) →
      next' ≡ first_above id (map number_of rows) → IsSoFar first text' count' examined' next'
  goes first text text' count count' examined examined' id next' up found so_far lt lt' one added more next =
      let f = so_far.is_next in
      let r = f.row in
      let there : job_at s id ≡ Some r = ap (job_at s) (sym f.number) ∙ found r f.there in
      let at : IsNext (id + 1) rows next' = subst (IsNext (id + 1) rows) (sym next) (next_from id (id + 1) rows refl up) in
      let later : Piece = piece_of passes (fewer (passes r) (most_of selection - count)) (1000 - examined - 1) (following next' rows) in
      let step : rest count examined (Some id) ≡ with_first (passes r) r later = one_more passes rows (most_of selection - count) (1000 - examined) so_far.from id next' f (omega (arith, lt)) (omega (arith, lt')) at in
      let added' : text' ≡ text ++ cond (passes r) (job_fields s.moment (hides c r) (times r.id) r) [] =
      added ∙ ap (λ row. text ++ row_fields c (times id) selection s.moment row) there ∙ ap (λ m. text ++ cond (passes r) (job_fields s.moment (hides c r) (times m) r) []) (sym f.number) in
      let more' : count' ≡ count + counted (passes r) = more ∙ ap (λ row. count + counted (is_row_selected c selection s.moment row)) there in
      let last : rest count' examined' next' ≡ later =
      ap (λ m. piece_of passes m (1000 - examined') (following next' rows)) (ap (λ m. most_of selection - m) more' ∙ sym (fewer_left (passes r) (most_of selection) count lt))
      ∙ ap (λ m. piece_of passes (fewer (passes r) (most_of selection - count)) m (following next' rows)) (omega (arith, one)) in
      record {
        from = id + 1;
        is_next = at;
        told = ap (λ (p : Piece). text' ++ lines p) last ∙ ap (λ (t : List ℕ). t ++ lines later) added' ∙ sym (text_more c times s.moment (passes r) r later text) ∙ ap (λ (p : Piece). text ++ lines p) (sym step) ∙ so_far.told;
        counted = ap (λ (p : Piece). count' + length p.jobs) last ∙ ap (λ m. m + length later.jobs) more' ∙ sym (count_more c times s.moment (passes r) r later count) ∙ ap (λ (p : Piece). count + length p.jobs) (sym step) ∙ so_far.counted;
        goes_on = ap (λ (p : Piece). p.next) last ∙ sym (next_more c times s.moment (passes r) r later) ∙ ap (λ (p : Piece). p.next) (sym step) ∙ so_far.goes_on;
        few = few_more (passes r) (most_of selection) count count' lt more';
      }
