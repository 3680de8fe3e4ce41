-- A number that is over stays over.
use Rattle.std.proofs.Common.{◌≡◌, ℕ, ◌≤◌, Bool, true, false, inl, inr, cond, List, [], ◌∷◌, Some, None, Option, IsSome, refl, sym, ap, subst, ◌∙◌, arith}
use Rattle.std.specs.Prelude.{nat_le, is_none}
use Rattle.std.specs.FinMap as finite
use Rattle.std.proofs.lemmas.Bool.{both_ways}
use Rattle.std.proofs.lemmas.Bool.Decides.{nat_tests}
use Rattle.spool_types.specs.Phases.{has_ended}
use Rattle.spool_types.specs.declared.effect.Effect.{Effect}
use Rattle.spool_types.specs.declared.event.Event.{Event}
use Rattle.spool_types.specs.declared.event.NewJob.{NewJob}
use Rattle.spool_types.specs.declared.refusal.Refusal.{Refusal}
use Rattle.spool_types.specs.declared.refusal.Refusal.TheVariants.{NoJob, JobEnded}
use Rattle.spool_types.specs.State.{State, Job, job_at}
use Rattle.job_table.specs.Attempts.{lost_by, lose_attempt, rule_found, is_processing_at}
use Rattle.job_table.specs.Ended.{subject}
use Rattle.job_table.specs.EventFold.{after_all, after_one, unless_refused}
use Rattle.job_table.specs.Legal.{IsLegal}
use Rattle.job_table.specs.Over.{is_over_by, is_over, IsOver, late_refusal}
use Rattle.job_table.specs.Shapes.{Change, NewQueueRow, OfQueue, NewJobRow, OfJob, OfBoth, WithoutJob, OfClock, OfAll, subject_of, causes_of, made, where_it}
use Rattle.job_table.specs.Step.{creation, row, change_by, refusal_of, after, first_cause}
use Rattle.job_table.proofs.Accepted.{accepted_create}
use Rattle.job_table.proofs.Changes.{at_most_highest, without_own}
use Rattle.job_table.proofs.Ended.{unchanged, refused_as_ended, number_refused, number_of, lose_other, some_unless}
use Rattle.job_table.proofs.Legal.{KeepsOrder, Keeps, keeps_each, legal_after_one}
use Rattle.job_table.proofs.Stages.{IsStillAbsent, stays_absent, absent_ruled}

given_by : (j highest : ℕ) → nat_le j highest ≡ true → j ≤ highest
given_by j highest is = grind (arith, nat_tests)

is_within : (j highest : ℕ) → j ≤ highest → nat_le j highest ≡ true
is_within j highest within = grind (arith, nat_tests)

is_given : (j low high : ℕ) → nat_le j low ≡ true → low ≤ high → nat_le j high ≡ true
is_given j low high is up = grind (arith, nat_tests)

over_absent : (s t : State) (j : ℕ) → IsStillAbsent s t j → nat_le j s.highest ≡ true → IsOver t j
over_absent s t j still given = subst (λ (o : Option Job). is_over_by t.highest j o ≡ true) (sym still.absent) (is_given j s.highest t.highest given still.highest)

over_there : (t : State) (j : ℕ) (r : Job) → job_at t j ≡ Some r → has_ended r.phase ≡ true → IsOver t j
over_there t j r there over = subst (λ (o : Option Job). is_over_by t.highest j o ≡ true) (sym there) over

-- The number of a removed job is over.
pub over_without : (s : State) (j : ℕ) → j ≤ s.highest → IsOver (record s { jobs = finite.remove s.jobs j }) j
over_without s j within = subst (λ (o : Option Job). is_over_by s.highest j o ≡ true) (sym (without_own s j)) (is_within j s.highest within)

-- The causes of an event about a job begin with NoJob.
absent_first : (o : Option Job) (rest : List (Bool × Refusal)) → o ≡ None → first_cause ((is_none o, NoJob) ∷ rest) ≡ Some NoJob
absent_first o rest none = ap (λ p. first_cause ((is_none p, NoJob) ∷ rest)) none

module _ (s : State) (j : ℕ) (legal : IsLegal s) where
  over_by : (e : Event) → Keeps e → refusal_of s e ≡ None → (o : Option Job) → job_at s j ≡ o → is_over_by s.highest j o ≡ true → IsOver (after s e) j
  over_by e keeps accepted None none given = over_absent s (after s e) j (stays_absent s j none (given_by j s.highest given) legal e keeps accepted) given
  over_by e keeps accepted (Some r) there over = elim (unchanged s j r (record { legal = legal; there = there; ended = over }) e keeps accepted) [
    | inl same ↦ over_there (after s e) j r same over
    | inr goes ↦ subst (λ (t : State). IsOver t j) (sym (ap (made s) goes)) (over_without s j (at_most_highest s j r legal there))
  ]

  pub over_after : (e : Event) → Keeps e → refusal_of s e ≡ None → IsOver s j → IsOver (after s e) j
  over_after e keeps accepted over = over_by e keeps accepted (job_at s j) refl over

  over_unless : (e : Event) (o : Option Refusal) → Keeps e → refusal_of s e ≡ o → IsOver s j → IsOver (unless_refused s e o) j
  over_unless e None keeps accepted over = over_after e keeps accepted over
  over_unless e (Some x) keeps refused over = over

  at_same : (k : ℕ) → k ≡ j → job_at s j ≡ None → job_at s k ≡ None
  at_same k same none = ap (job_at s) same ∙ none

  absent_by : job_at s j ≡ None → (change : Change) (own : List (Bool × Refusal)) → subject_of change ≡ Some j → first_cause (causes_of s change own) ≡ Some NoJob
  absent_by none (NewQueueRow q) own same = absurd (cc)
  absent_by none (OfQueue name f) own same = absurd (cc)
  absent_by none (NewJobRow x) own same = absurd (cc)
  absent_by none (OfJob k f) own same = absent_first (job_at s k) (where_it (job_at s k) (λ r. has_ended r.phase) JobEnded ∷ own) (at_same k (number_of j k same) none)
  absent_by none (OfBoth k effects verdict) own same = absent_first (job_at s k) (where_it (job_at s k) (λ r. has_ended r.phase) JobEnded ∷ own) (at_same k (number_of j k same) none)
  absent_by none (WithoutJob k) own same = absurd (cc)
  absent_by none (OfClock m) own same = absurd (cc)
  absent_by none OfAll own same = absurd (cc)

  pub refused_as_absent : job_at s j ≡ None → (e : Event) → subject e ≡ Some j → refusal_of s e ≡ Some NoJob
  refused_as_absent none e same = absent_by none (change_by e) ((row e).own s) same

  refused_by : (e : Event) → subject e ≡ Some j → (o : Option Job) → job_at s j ≡ o → is_over_by s.highest j o ≡ true → refusal_of s e ≡ Some (late_refusal o)
  refused_by e same None none given = refused_as_absent none e same
  refused_by e same (Some r) there over = refused_as_ended s j r (record { legal = legal; there = there; ended = over }) e same

  pub refused_late : (e : Event) → subject e ≡ Some j → IsOver s j → refusal_of s e ≡ Some (late_refusal (job_at s j))
  refused_late e same over = refused_by e same (job_at s j) refl over

  not_again : (n : NewJob) (by : Option ℕ) → n.job ≡ j → (o : Option Job) → job_at s j ≡ o → is_over_by s.highest j o ≡ true → IsSome (refusal_of s (creation n by))
  not_again n by same None none given = some_unless _ (λ accepted.
      let above = accepted_create s n by accepted in
      let within = given_by j s.highest given in
      omega (arith, above, within, same))
  not_again n by same (Some r) there over = number_refused s j r (record { legal = legal; there = there; ended = over }) n by same

  pub number_not_again : (n : NewJob) (by : Option ℕ) → n.job ≡ j → IsOver s j → IsSome (refusal_of s (creation n by))
  number_not_again n by same over = not_again n by same (job_at s j) refl over

-- After all events the number is over, and the table is legal.
pub over_after_all : ((effects : List Effect) → KeepsOrder effects) → (es : List Event) (s : State) (j : ℕ) → IsLegal s → IsOver s j → IsLegal (after_all s es) × IsOver (after_all s es) j
over_after_all law [] s j legal over = (legal, over)
over_after_all law (e ∷ es) s j legal over =
    over_after_all law es (after_one s e) j (legal_after_one s e (keeps_each law e) legal) (over_unless s j legal e _ (keeps_each law e) refl over)

-- A number that is not over after the loss of an attempt was not over before.
module _ (s : State) (n j : ℕ) (legal : IsLegal s) where
  lose_absent : job_at s j ≡ None → (b : Bool) → IsStillAbsent s (cond b (rule_found s lost_by (job_at s n)) s) j
  lose_absent none true = absent_ruled s j none legal n lost_by _ refl
  lose_absent none false = record { highest = omega arith; absent = none }

  lose_over : (o : Option Job) → job_at s j ≡ o → is_over_by s.highest j o ≡ true → IsOver (lose_attempt s n) j
  lose_over None none given = over_absent s (lose_attempt s n) j (lose_absent none (is_processing_at (job_at s n))) given
  lose_over (Some r) there over = over_there (lose_attempt s n) j r (lose_other s j r (record { legal = legal; there = there; ended = over }) n) over

pub lose_alive : (s : State) (n j : ℕ) → IsLegal s → is_over (lose_attempt s n) j ≡ false → is_over s j ≡ false
lose_alive s n j legal lives = either (is_over s j) refl
  where
    either : (b : Bool) → is_over s j ≡ b → is_over s j ≡ false
    either true over = absurd (both_ways (is_over (lose_attempt s n) j) lives (lose_over s n j legal (job_at s j) refl over))
    either false lasts = lasts
