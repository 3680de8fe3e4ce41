-- A queue's part of a table depends only on the queue's own events.
use Rattle.std.proofs.Common.{◌≡◌, ℕ, Bool, true, false, cond, ◌==◌, List, [], ◌∷◌, ◌++◌, Some, None, Option, refl, sym, ap, subst, ◌∙◌, arith}
use Rattle.std.specs.Prelude.{filter, is_none}
use Rattle.std.specs.Cmp.Lexicographic.{slice_cmp, bytes_decides}
use Rattle.std.specs.Ordering.{nat_cmp}
use Rattle.std.specs.FinMap as finite
use Rattle.std.proofs.lemmas.Bool.{both_ways}
use Rattle.spool_types.specs.declared.effect.Effect.{Effect}
use Rattle.spool_types.specs.declared.event.Event.{Event}
use Rattle.spool_types.specs.declared.event.Event.TheVariants.{Send}
use Rattle.spool_types.specs.declared.refusal.Refusal.{Refusal}
use Rattle.spool_types.specs.declared.refusal.Refusal.TheVariants.{NoJob, NeedsCheckpoint}
use Rattle.spool_types.specs.declared.version.Version.{Version}
use Rattle.spool_types.specs.declared.version.Version.TheVariants.{One, Two}
use Rattle.spool_types.specs.Busy.{is_of}
use Rattle.spool_types.specs.Sent.{sent, sent_by, sent_to}
use Rattle.spool_types.specs.State.{State, Job, nothing_in, queue_at, job_at}
use Rattle.job_table.specs.Apart.{IsPart, own_of, rows_of, names_it, numbers_of, is_in, is_about, events_of, whole_table, own_table, is_own_event, is_own, is_own_job, own_events, if_own}
use Rattle.job_table.specs.Ended.{IsAbout, subject}
use Rattle.job_table.specs.EventFold.{after_one, after_all, accepted, if_accepted, unless_refused}
use Rattle.job_table.specs.Legal.{IsLegal}
use Rattle.job_table.specs.Shapes.{Change, NewQueueRow, OfQueue, NewJobRow, OfJob, OfBoth, WithoutJob, OfClock, OfAll, IsOfOne, subject_of, causes_of, lacks_purge}
use Rattle.job_table.specs.Step.{row, change_by, first_cause, refusal_of, answer_to, unless_refused_reply}
use Rattle.job_table.proofs.Legal.{KeepsOrder, keeps_each, legal_nothing, legal_after_one, legal_after_all}
use Rattle.job_table.proofs.Over.{refused_as_absent}
use Rattle.job_table.proofs.Owners.{named, own_number, own_event}
use Rattle.job_table.proofs.Part.{some_unless_none}
use Rattle.job_table.proofs.Steps.{same_by}
use Rattle.job_table.proofs.PartSteps.{part_after_one, part_after_one_other, part_either, same_answer}

-- ## Refused events

skipped_next : (e : Event) (es : List Event) (s : State) → after_all (after_one s e) (accepted (after_one s e) es) ≡ after_all (after_one s e) es → after_all s (accepted s (e ∷ es)) ≡ after_all s (e ∷ es)
skipped_next e es s rest = by_refusal (refusal_of s e) refl
  where
    by_refusal : (o : Option Refusal) → refusal_of s e ≡ o → after_all s (if_accepted e (accepted (after_one s e) es) o) ≡ after_all (after_one s e) es
    by_refusal None taken = rest
    by_refusal (Some x) refused = ap (λ u. after_all u (accepted (after_one s e) es)) (sym (ap (unless_refused s e) refused)) ∙ rest

pub skipped : (es : List Event) (s : State) → after_all s (accepted s es) ≡ after_all s es
skipped [] s = refl
skipped (e ∷ es) s = skipped_next e es s (skipped es (after_one s e))

-- ## Documents

module _ (name : List ℕ) (js : List ℕ) (j : ℕ) (given : is_in j js ≡ true) where
  -- An event that is not the queue's own sends nothing to its jobs.
  none_sent : (e : Event) → is_about name js e ≡ false → sent_to j (sent_by e) ≡ []
  none_sent (Send k bytes) other = either (k == j) refl
    where
      either : (b : Bool) → (k == j) ≡ b → cond b bytes [] ≡ []
      either true same = absurd (both_ways _ other (ap (λ n. is_in n js) (same_by k j same) ∙ given))
      either false apart = refl
  none_sent e other = refl

  sent_kept : (es : List Event) → sent es j ≡ sent (filter (is_about name js) es) j
  sent_kept [] = refl
  sent_kept (e ∷ es) = by_own e es (is_about name js e) refl (sent_kept es)
    where
      by_own : (e : Event) (es : List Event) (b : Bool) → is_about name js e ≡ b → sent es j ≡ sent (filter (is_about name js) es) j
          → sent_to j (sent_by e) ++ sent es j ≡ sent (cond b (e ∷ filter (is_about name js) es) (filter (is_about name js) es)) j
      by_own e es true own rest = ap (λ l. sent_to j (sent_by e) ++ l) rest
      by_own e es false other rest = ap (λ l. l ++ sent es j) (none_sent e other) ∙ rest

-- ## A purge of a job that does not exist

abbrev absent_refusal : Version → Refusal
absent_refusal One = NeedsCheckpoint
absent_refusal Two = NoJob

purge_absent : (s : State) (j : ℕ) (own : List (Bool × Refusal)) → job_at s j ≡ None → first_cause (causes_of s (WithoutJob j) own) ≡ Some (absent_refusal s.version)
purge_absent s j own none = ap (λ o. first_cause ((lacks_purge s.version, NeedsCheckpoint) ∷ (is_none o, NoJob) ∷ own)) none ∙ by_version s.version
  where
    by_version : (v : Version) → cond (lacks_purge v) (Some NeedsCheckpoint) (Some NoJob) ≡ Some (absent_refusal v)
    by_version One = refl
    by_version Two = refl

-- ## The part of a table

-- Selecting the queue's jobs twice selects the same jobs.
own_twice : (name : List ℕ) (o : Option Job) → own_of name (own_of name o) ≡ own_of name o
own_twice name None = refl
own_twice name (Some r) = either (is_of name r) refl
  where
    either : (b : Bool) → is_of name r ≡ b → own_of name (cond b (Some r) None) ≡ cond b (Some r) None
    either true own = ap (λ b. cond b (Some r) None) own
    either false other = refl

same_rows : (name : List ℕ) (s t : State) → IsPart name s t → rows_of s name ≡ rows_of t name
same_rows name s t part =
    let jobs : (j : ℕ) → own_of name (job_at s j) ≡ own_of name (job_at t j) = λ j. sym (ap (own_of name) (part.jobs j) ∙ own_twice name (job_at s j)) in
    let queue : queue_at s name ≡ queue_at t name = sym part.queue in
    λ i. record { queue = queue i; jobs = λ j. jobs j i }

-- ## Lists of events

begins : (name : List ℕ) (v : Version) → IsPart name (nothing_in v) (nothing_in v)
begins name v = record {
  queue = refl;
  only = λ other there. absurd (some_unless_none _ (finite.get-empty (slice_cmp nat_cmp) other) there);
  jobs = λ j. finite.get-empty nat_cmp j ∙ sym (ap (own_of name) (finite.get-empty nat_cmp j));
  moment = refl;
  version = refl;
  highest = omega arith;
}

module _ (law : (effects : List Effect) → KeepsOrder effects) (name : List ℕ) where
  -- The part stays the part after the events.
  abbrev StaysPart : List Event → Type 0
  StaysPart es = (s t : State) → IsLegal s → IsLegal t → IsPart name s t → IsPart name (after_all s (accepted s es)) (after_all t (own_events s name (accepted s es)))

  part_next : (e : Event) (es : List Event) → StaysPart es → StaysPart (e ∷ es)
  part_next e es rest s t legal legal_part part = by_refusal (refusal_of s e) refl
    where
      next_legal : IsLegal (after_one s e)
      next_legal = legal_after_one s e (keeps_each law e) legal

      by_own : refusal_of s e ≡ None → (b : Bool) → is_own s name e ≡ b
          → IsPart name (after_all (after_one s e) (accepted (after_one s e) es)) (after_all t (if_own e (own_events (after_one s e) name (accepted (after_one s e) es)) b))
      by_own taken true own = rest (after_one s e) (after_one t e) next_legal (legal_after_one t e (keeps_each law e) legal_part) (part_after_one name s t part legal legal_part e (keeps_each law e) own taken)
      by_own taken false other = rest (after_one s e) t next_legal legal_part (part_after_one_other name s t part legal e (keeps_each law e) other taken)

      by_refusal : (o : Option Refusal) → refusal_of s e ≡ o
          → IsPart name (after_all s (if_accepted e (accepted (after_one s e) es) o)) (after_all t (own_events s name (if_accepted e (accepted (after_one s e) es) o)))
      by_refusal None taken = by_own taken (is_own s name e) refl
      by_refusal (Some x) refused =
          subst (λ u. IsPart name (after_all s (accepted u es)) (after_all t (own_events s name (accepted u es)))) (sym (ap (unless_refused s e) refused))
          (rest s t legal legal_part part)

  pub part_all : (es : List Event) → StaysPart es
  part_all [] = λ s t legal legal_part part. part
  part_all (e ∷ es) = part_next e es (part_all es)

  module _ (v : Version) (es : List Event) where
    abbrev whole : State
    whole = whole_table v es

    abbrev own : State
    own = own_table v es name

    parts : IsPart name whole own
    parts = subst (λ l. IsPart name whole (after_all (nothing_in v) l)) (named law name v es) (part_all es (nothing_in v) (nothing_in v) (legal_nothing v) (legal_nothing v) (begins name v))

    legal_whole : IsLegal whole
    legal_whole = legal_after_all law (accepted (nothing_in v) es) (nothing_in v) (legal_nothing v)

    legal_own : IsLegal own
    legal_own = legal_after_all law (events_of name (accepted (nothing_in v) es)) (nothing_in v) (legal_nothing v)

    pub rows_apart : rows_of whole name ≡ rows_of own name
    rows_apart = same_rows name whole own parts

    -- The bytes that were sent to the queue's jobs.
    pub documents_apart : (j : ℕ) (r : Job) → job_at whole j ≡ Some r → r.queue ≡ name → sent (accepted (nothing_in v) es) j ≡ sent (events_of name (accepted (nothing_in v) es)) j
    documents_apart j r there of = sent_kept name (numbers_of name (accepted (nothing_in v) es)) j (own_number law name v es legal_whole j r there ∙ (bytes_decides r.queue name).1 of) (accepted (nothing_in v) es)

    -- The event gets the same answer in both tables, and has the same effect on the queue.
    abbrev IsAlike : Event → Type 0
    IsAlike e = (answer_to whole e ≡ answer_to own e) × (rows_of (after_one whole e) name ≡ rows_of (after_one own e) name)

    alike_own : (e : Event) → IsAbout e → is_own whole name e ≡ true → IsAlike e
    alike_own e about is = (
      same_answer name whole own parts legal_whole legal_own e (keeps_each law e) about is,
      same_rows name _ _ (part_either name whole own parts legal_whole legal_own e (keeps_each law e) about is),
    )

    alike_refused : (e : Event) (x : Refusal) → refusal_of whole e ≡ Some x → refusal_of own e ≡ Some x → IsAlike e
    alike_refused e x first second = (
      ap (unless_refused_reply whole e) first ∙ sym (ap (unless_refused_reply own e) second),
      ap (λ (u : State). rows_of u name) (ap (unless_refused whole e) first) ∙ rows_apart ∙ sym (ap (λ (u : State). rows_of u name) (ap (unless_refused own e) second)),
    )

    -- For an event about a number that was assigned to a job of the queue.
    of_number : (e : Event) (j : ℕ) → IsAbout e → is_own whole name e ≡ is_own_job name (job_at whole j) → subject e ≡ Some j → is_in j (numbers_of name (accepted (nothing_in v) es)) ≡ true → IsAlike e
    of_number e j about reads names given = by_job (job_at whole j) refl
      where
        by_job : (o : Option Job) → job_at whole j ≡ o → IsAlike e
        by_job None none = alike_refused e NoJob (refused_as_absent whole j legal_whole none e names) (refused_as_absent own j legal_own (parts.jobs j ∙ ap (own_of name) none) e names)
        by_job (Some r) there = alike_own e about (reads ∙ ap (is_own_job name) there ∙ sym (own_number law name v es legal_whole j r there) ∙ given)

    -- For a purge of such a number.
    of_purge : (e : Event) (j : ℕ) → change_by e ≡ WithoutJob j → is_in j (numbers_of name (accepted (nothing_in v) es)) ≡ true → IsAlike e
    of_purge e j is given = by_job (job_at whole j) refl
      where
        refused : (u : State) → job_at u j ≡ None → refusal_of u e ≡ Some (absent_refusal u.version)
        refused u none = ap (λ change. first_cause (causes_of u change ((row e).own u))) is ∙ purge_absent u j ((row e).own u) none

        by_job : (o : Option Job) → job_at whole j ≡ o → IsAlike e
        by_job None none = alike_refused e (absent_refusal whole.version) (refused whole none)
            (refused own (parts.jobs j ∙ ap (own_of name) none) ∙ ap (λ u. Some (absent_refusal u)) parts.version)
        by_job (Some r) there = alike_own e (subst IsOfOne (sym is) tt)
            (ap (names_it name (λ k. is_own_job name (job_at whole k))) is ∙ ap (is_own_job name) there ∙ sym (own_number law name v es legal_whole j r there) ∙ given)

    alike_by : (e : Event) (change : Change) → change_by e ≡ change → IsOfOne change → names_it name (λ j. is_in j (numbers_of name (accepted (nothing_in v) es))) change ≡ true → IsAlike e
    alike_by e (NewQueueRow q) is about named_so = absurd about
    alike_by e (OfQueue k f) is about named_so = alike_own e (subst IsOfOne (sym is) about) (ap (names_it name (λ j. is_own_job name (job_at whole j))) is ∙ named_so)
    alike_by e (NewJobRow r) is about named_so = absurd about
    alike_by e (OfJob j f) is about named_so = of_number e j (subst IsOfOne (sym is) about) (ap (names_it name (λ j. is_own_job name (job_at whole j))) is) (ap subject_of is) named_so
    alike_by e (OfBoth j effects verdict) is about named_so = of_number e j (subst IsOfOne (sym is) about) (ap (names_it name (λ j. is_own_job name (job_at whole j))) is) (ap subject_of is) named_so
    alike_by e (WithoutJob j) is about named_so = of_purge e j is named_so
    alike_by e (OfClock m) is about named_so = absurd about
    alike_by e OfAll is about named_so = absurd about

    pub answers_apart : (e : Event) → IsAbout e → is_own_event v es name e ≡ true → IsAlike e
    answers_apart e about is = alike_by e (change_by e) refl about is

    -- An event that is not the queue's own changes nothing of the queue.
    pub others_apart : (e : Event) → is_own_event v es name e ≡ false → rows_of (after_one whole e) name ≡ rows_of whole name
    others_apart e other = by_refusal (refusal_of whole e) refl
      where
        by_refusal : (o : Option Refusal) → refusal_of whole e ≡ o → rows_of (after_one whole e) name ≡ rows_of whole name
        by_refusal None taken =
            same_rows name (after_one whole e) own (part_after_one_other name whole own parts legal_whole e (keeps_each law e) (own_event law name v es legal_whole e taken ∙ other) taken)
            ∙ sym rows_apart
        by_refusal (Some x) refused = ap (λ (u : State). rows_of u name) (ap (unless_refused whole e) refused)
