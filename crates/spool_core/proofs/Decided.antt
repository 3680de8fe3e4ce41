-- Which row may come next is decidable from the rows so far, and so is whether a job is processing.
use Rattle.std.proofs.Common.{◌≡◌, ◌⊎◌, ◌<◌, ◌≤◌, ◌+◌, ◌-◌, inl, inr, ℕ, Bool, true, false, cond, List, [], ◌∷◌, ◌++◌, Option, None, Some, IsSome, length, min, refl, sym, ap, subst, ◌∙◌, append_assoc, arith}
use Rattle.std.specs.Prelude.{T}
use Rattle.std.specs.List.{AllByRecursion}
use Rattle.std.proofs.lemmas.Bool.{cases_eq, cases_lt}
use Rattle.std.specs.declared.cmp.Ordering.{Ordering}
use Rattle.std.specs.declared.cmp.Ordering.TheVariants.{Less, Equal, Greater}
use Rattle.std.specs.Ordering.{nat_cmp, is_eq}
use Rattle.std.specs.Cmp.{nat_cmp_total}
use Rattle.std.specs.Cmp.Lexicographic.{slice_cmp}
use Rattle.std.specs.FinMap as finite
use Rattle.std.specs.FinMap.Entries.{is_sorted}
use Rattle.spool_types.specs.Busy.{is_busy}
use Rattle.spool_types.specs.Limits.{most_queues, longest_document, longest_send, greatest_number, greatest_attempts}
use Rattle.spool_types.specs.Phases.{is_processing}
use Rattle.spool_types.specs.State.{State, Job, queue_at, job_at}
use Rattle.spool_types.specs.declared.phase.Phase.{Phase}
use Rattle.spool_types.specs.declared.phase.Phase.TheVariants.{Incoming, Waiting, Processing, Completed, Canceled, Aborted}
use Rattle.spool_types.specs.declared.rows.QueueRow.{QueueRow}
use Rattle.spool_types.specs.declared.listing.Head.{Head}
use Rattle.spool_types.specs.declared.listing.Row.{Row}
use Rattle.spool_types.specs.declared.listing.Row.TheVariants.{Head as HeadRow, Queue, Job as JobRow, Piece}
use Rattle.row_effects.specs.EffectFold.{IsInOrder}
use Rattle.row_effects.specs.Keys.{is_ascending, most_kept}
use Rattle.row_effects.specs.QueueReasons.{word_of}
use Rattle.row_effects.specs.QueueAttributes.{name_of}
use Rattle.job_table.specs.Attempts.{HasNoProcessing}
use Rattle.job_table.specs.Legal.{Fits, IsUntyped, IsStartable, IsStarted}
use Rattle.job_table.specs.Loading.{Part, Progress, IsWhole, IsAbove, IsNextHead, IsNewQueue, IsNextQueue, IsNewJob, IsNextJob, IsPieceOf, IsPlaced}
use Rattle.job_table.proofs.Above.{above_front, found_there}
use Rattle.job_table.proofs.Changes.{some_same}

-- The proposition is true or false.
abbrev pub Decided : Type 0 → Type 0
Decided P = P ⊎ (¬ P)

both : {P Q : Type 0} → Decided P → Decided Q → Decided (P × Q)
both (inl p) (inl q) = inl (p, q)
both (inl p) (inr isnt) = inr (λ pq. isnt pq.1)
both (inr isnt) q = inr (λ pq. isnt pq.0)

-- Equivalent propositions are decided alike.
alike : {P Q : Type 0} → Decided P → (P → Q) → (Q → P) → Decided Q
alike (inl p) to from = inl (to p)
alike (inr isnt) to from = inr (λ q. isnt (from q))

where_so : {P : Type 0} (a : Bool) → Decided P → Decided (a ≡ true → P)
where_so true p = alike p (λ is so. is) (λ is. is refl)
where_so false p = inl (λ so. absurd (cc))

test_is : (a b : Bool) → Decided (a ≡ b)
test_is true true = inl refl
test_is false false = inl refl
test_is true false = inr (λ is. absurd (cc))
test_is false true = inr (λ is. absurd (cc))

at_most : (a b : ℕ) → Decided (a ≤ b)
at_most a b = elim (cases_lt b a) [
  | inl less ↦ inr (λ le. omega (arith, le, less))
  | inr le ↦ inl le
]

below : (a b : ℕ) → Decided (a < b)
below a b = elim (cases_lt a b) [
  | inl less ↦ inl less
  | inr le ↦ inr (λ less. omega (arith, le, less))
]

equal : (a b : ℕ) → Decided (a ≡ b)
equal a b = cases_eq a b

none_there : {A : Type 0} (o : Option A) → Decided (o ≡ None)
none_there None = inl refl
none_there (Some x) = inr (λ is. absurd (cc))

some_there : {A : Type 0} (o : Option A) → Decided (IsSome o)
some_there None = inr (λ is. absurd (cc))
some_there (Some x) = inl refl

no_items : {A : Type 0} (xs : List A) → Decided (xs ≡ [])
no_items [] = inl refl
no_items (x ∷ xs) = inr (λ is. absurd (cc))

is_less : (o : Ordering) → Decided (o ≡ Less)
is_less Less = inl refl
is_less Equal = inr (λ is. absurd (cc))
is_less Greater = inr (λ is. absurd (cc))

is_above : {K : Type 0} (R : K → K → Ordering) (k : K) (keys : List K) → Decided (IsAbove R k keys)
is_above R k [] = inl tt
is_above R k (x ∷ keys) = both (is_less (R x k)) (is_above R k keys)

-- ---- rows

pub whole_decided : (p : Progress) → Decided (IsWhole p)
whole_decided p = none_there p.partial

head_decided : (p : Progress) (head : Head) → Decided (IsNextHead p head)
head_decided p head =
    alike (both (test_is p.begun false) (at_most head.highest greatest_number))
    (λ is. record { first = is.0; highest = is.1 })
    (λ is. (is.first, is.highest))

order_decided : (q : QueueRow) → Decided (IsInOrder q)
order_decided q =
    alike
    (both (test_is (is_ascending word_of q.reasons) true) (both (at_most (length q.reasons) most_kept)
    (both (test_is (is_ascending name_of q.attributes) true) (at_most (length q.attributes) most_kept))))
    (λ is. record { reasons = is.0; few_reasons = is.1.0; attributes = is.1.1.0; few_attributes = is.1.1.1 })
    (λ is. (is.reasons, (is.few_reasons, (is.attributes, is.few_attributes))))

new_queue_decided : (s : State) (q : QueueRow) → Decided (IsNewQueue s q)
new_queue_decided s q =
    alike
    (both (no_items (finite.values s.jobs)) (both (below (finite.len s.queues) most_queues)
    (both (is_above (slice_cmp nat_cmp) q.name (finite.keys s.queues)) (order_decided q))))
    (λ is. record { no_jobs = is.0; few = is.1.0; above = is.1.1.0; in_order = is.1.1.1 })
    (λ is. (is.no_jobs, (is.few, (is.above, is.in_order))))

queue_decided : (p : Progress) (q : QueueRow) → Decided (IsNextQueue p q)
queue_decided p q =
    alike (both (test_is p.begun true) (both (whole_decided p) (new_queue_decided p.state q)))
    (λ is. record { begun = is.0; whole = is.1.0; new = is.1.1 })
    (λ is. (is.begun, (is.whole, is.new)))

untyped_decided : (r : Job) → Decided (IsUntyped r)
untyped_decided r =
    alike (both (none_there r.media) (both (no_items r.filters) (below r.attempts greatest_attempts)))
    (λ is. record { media = is.0; filters = is.1.0; attempts = is.1.1 })
    (λ is. (is.media, (is.filters, is.attempts)))

startable_decided : (r : Job) → Decided (IsStartable r)
startable_decided r =
    alike (both (some_there r.media) (below r.attempts greatest_attempts))
    (λ is. record { media = is.0; attempts = is.1 })
    (λ is. (is.media, is.attempts))

started_decided : (r : Job) (attempt stage stages : ℕ) → Decided (IsStarted r attempt stage stages)
started_decided r attempt stage stages =
    alike
    (both (some_there r.media) (both (at_most 1 attempt) (both (equal attempt r.attempts) (both (at_most r.attempts greatest_attempts)
    (both (at_most 1 stage) (both (at_most stage stages) (equal stages (length r.filters + 1))))))))
    (λ is. record { media = is.0; started = is.1.0; newest = is.1.1.0; counted = is.1.1.1.0; from_first = is.1.1.1.1.0; to_last = is.1.1.1.1.1.0; of_all = is.1.1.1.1.1.1 })
    (λ is. (is.media, (is.started, (is.newest, (is.counted, (is.from_first, (is.to_last, is.of_all)))))))

fits_decided : (r : Job) (phase : Phase) → Decided (Fits r phase)
fits_decided r (Incoming hold) = untyped_decided r
fits_decided r (Waiting hold not_before first) = startable_decided r
fits_decided r (Processing attempt stage stages) = started_decided r attempt stage stages
fits_decided r Completed = inl tt
fits_decided r Canceled = inl tt
fits_decided r (Aborted reason) = inl tt

new_job_decided : (s : State) (r : Job) → Decided (IsNewJob s r)
new_job_decided s r =
    alike
    (both (is_above nat_cmp r.id (finite.keys s.jobs)) (both (at_most r.id s.highest) (both (some_there (queue_at s r.queue))
    (both (fits_decided r r.phase) (both (at_most r.size longest_document)
    (where_so (is_processing r.phase) (test_is (is_busy (finite.values s.jobs) r.queue) false)))))))
    (λ is. record { above = is.0; given = is.1.0; queue = is.1.1.0; phase = is.1.1.1.0; size = is.1.1.1.1.0; alone = is.1.1.1.1.1 })
    (λ is. (is.above, (is.given, (is.queue, (is.phase, (is.size, is.alone))))))

job_decided : (p : Progress) (r : Job) → Decided (IsNextJob p r)
job_decided p r =
    alike (both (test_is p.begun true) (both (whole_decided p) (new_job_decided p.state r)))
    (λ is. record { begun = is.0; whole = is.1.0; new = is.1.1 })
    (λ is. (is.begun, (is.whole, is.new)))

piece_decided : (o : Option Part) (j : ℕ) (bytes : List ℕ) → Decided (IsPieceOf o j bytes)
piece_decided None j bytes = inr (λ is. is)
piece_decided (Some x) j bytes =
    alike (both (equal x.row.id j) (equal (length bytes) (min (x.row.size - x.read) longest_send)))
    (λ is. record { own = is.0; full = is.1 })
    (λ is. (is.own, is.full))

pub placed_decided : (p : Progress) (row : Row) → Decided (IsPlaced p row)
placed_decided p (HeadRow head) = head_decided p head
placed_decided p (Queue q) = queue_decided p q
placed_decided p (JobRow r) = job_decided p r
placed_decided p (Piece j bytes) = piece_decided p.partial j bytes

-- ---- processing jobs

-- A job of the table is processing.
record IsProcessingIn (s : State) : Type 0 where
  number : ℕ
  row : Job
  there : job_at s number ≡ Some row
  runs : is_processing row.phase ≡ true

abbrev AreIdle : List (ℕ × Job) → Type 0
AreIdle es = AllByRecursion (λ (e : ℕ × Job). is_processing e.1.phase ≡ false) es

idle_here : (b : Bool) (x r : Job) (rest : Option Job) → cond b (Some x) rest ≡ Some r → is_processing x.phase ≡ false → (rest ≡ Some r → is_processing r.phase ≡ false) → is_processing r.phase ≡ false
idle_here true x r rest found idle later = ap (λ (q : Job). is_processing q.phase) (sym (some_same x r found)) ∙ idle
idle_here false x r rest found idle later = later found

idle_found : (es : List (ℕ × Job)) → AreIdle es → (j : ℕ) (r : Job) → finite.find nat_cmp j es ≡ Some r → is_processing r.phase ≡ false
idle_found [] idle j r found = absurd (cc)
idle_found (e ∷ es) idle j r found = idle_here (is_eq (nat_cmp j e.0)) e.1 r (finite.find nat_cmp j es) found idle.0 (idle_found es idle.1 j r)

module _ (s : State) where
  one_more : (e : ℕ × Job) (es : List (ℕ × Job)) → job_at s e.0 ≡ Some e.1 → AreIdle es ⊎ IsProcessingIn s → (b : Bool) → is_processing e.1.phase ≡ b → AreIdle (e ∷ es) ⊎ IsProcessingIn s
  one_more e es there rest true runs = inr (record { number = e.0; row = e.1; there = there; runs = runs })
  one_more e es there (inl idle) false here = inl (here, idle)
  one_more e es there (inr busy) false here = inr busy

  each_idle : (front es : List (ℕ × Job)) → finite.entries s.jobs ≡ front ++ es → AreIdle es ⊎ IsProcessingIn s
  each_idle front [] is = inl tt
  each_idle front (e ∷ es) is =
      let sorted : T (is_sorted nat_cmp (front ++ e ∷ es)) = subst (λ (l : List (ℕ × Job)). T (is_sorted nat_cmp l)) is (finite.entries_sorted s.jobs) in
      let there : job_at s e.0 ≡ Some e.1 = finite.get-entries s.jobs e.0 ∙ ap (finite.find nat_cmp e.0) is ∙ found_there nat_cmp nat_cmp_total front e es (above_front nat_cmp nat_cmp_total front e es sorted) in
      one_more e es there (each_idle (front ++ e ∷ []) es (is ∙ sym (append_assoc front (e ∷ []) es))) (is_processing e.1.phase) refl

  pub idle_decided : Decided (HasNoProcessing s)
  idle_decided = elim (each_idle [] (finite.entries s.jobs) refl) [
    | inl idle ↦ inl (λ j r there. idle_found (finite.entries s.jobs) idle j r (sym (finite.get-entries s.jobs j) ∙ there))
    | inr busy ↦ inr (λ idle. let e = idle busy.number busy.row busy.there in let f = busy.runs in absurd (cc))
  ]
