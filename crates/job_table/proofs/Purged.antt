-- After any events a job that has ended is unchanged, or was purged.
use Rattle.std.proofs.Common.{◌≡◌, inl, inr, ℕ, suc, ◌≤◌, List, [], ◌∷◌, Some, None, Option, refl, sym, ap, subst, ◌∙◌, arith}
use Rattle.std.specs.List.{Contains}
use Rattle.spool_types.specs.declared.effect.Effect.{Effect}
use Rattle.spool_types.specs.declared.event.Event.{Event}
use Rattle.spool_types.specs.declared.event.Event.TheVariants.{Purge}
use Rattle.spool_types.specs.declared.refusal.Refusal.{Refusal}
use Rattle.spool_types.specs.State.{State, Job, job_at}
use Rattle.job_table.specs.Ended.{HasEndedJob, IsKeptOrPurged}
use Rattle.job_table.specs.EventFold.{after_all, after_one, accepted, if_accepted, unless_refused}
use Rattle.job_table.specs.Legal.{IsLegal}
use Rattle.job_table.specs.Shapes.{WithoutJob, made}
use Rattle.job_table.specs.Step.{change_by, refusal_of, after}
use Rattle.job_table.proofs.Changes.{at_most_highest, without_own}
use Rattle.job_table.proofs.Ended.{unchanged, gone_by_purge}
use Rattle.job_table.proofs.Legal.{KeepsOrder, keeps_each, legal_after_one}
use Rattle.job_table.proofs.Stages.{IsStillAbsent, stays_absent}

-- An event after the first of a list.
later : {X : Type 0} (x y : X) (xs : List X) → Contains xs x → Contains (y ∷ xs) x
later x y xs there = let within = there.1 in (suc there.0, omega (arith, within), there.2)

later_if : (e x : Event) (xs : List Event) (o : Option Refusal) → Contains xs x → Contains (if_accepted e xs o) x
later_if e x xs None there = later x e xs there
later_if e x xs (Some r) there = there

module _ (law : (effects : List Effect) → KeepsOrder effects) where
  -- A number that was assigned and has no job still has none after all events.
  absent_unless : (s : State) (j : ℕ) → job_at s j ≡ None → j ≤ s.highest → IsLegal s → (e : Event) (o : Option Refusal) → refusal_of s e ≡ o → IsStillAbsent s (unless_refused s e o) j
  absent_unless s j none given legal e None taken = stays_absent s j none given legal e (keeps_each law e) taken
  absent_unless s j none given legal e (Some x) refused = record { highest = omega arith; absent = none }

  absent_all : (es : List Event) (s : State) (j : ℕ) → job_at s j ≡ None → j ≤ s.highest → IsLegal s → job_at (after_all s es) j ≡ None
  absent_all [] s j none given legal = none
  absent_all (e ∷ es) s j none given legal =
      let still = absent_unless s j none given legal e (refusal_of s e) refl in
      let up = still.highest in
      absent_all es (after_one s e) j still.absent (omega (arith, given, up)) (legal_after_one s e (keeps_each law e) legal)

  abbrev Keeps : List Event → Type 0
  Keeps es = (s : State) (j : ℕ) (r : Job) → HasEndedJob s j r → IsKeptOrPurged s es (after_all s es) j r

  kept_next : (e : Event) (es : List Event) → Keeps es → Keeps (e ∷ es)
  kept_next e es rest s j r job = by_refusal (refusal_of s e) refl
    where
      next : State
      next = after_one s e

      legal : IsLegal next
      legal = legal_after_one s e (keeps_each law e) job.legal

      -- The result after the remaining events is the result after all events.
      kept_then : IsKeptOrPurged next es (after_all next es) j r → IsKeptOrPurged s (e ∷ es) (after_all next es) j r
      kept_then (inl there) = inl there
      kept_then (inr was) = inr (record { gone = was.gone; purge = later_if e (Purge j) (accepted next es) (refusal_of s e) was.purge })

      stays : job_at next j ≡ Some r → IsKeptOrPurged s (e ∷ es) (after_all next es) j r
      stays there = kept_then (rest next j r (record { legal = legal; there = there; ended = job.ended }))

      taken_is : refusal_of s e ≡ None → next ≡ after s e
      taken_is taken = ap (unless_refused s e) taken

      goes : refusal_of s e ≡ None → change_by e ≡ WithoutJob j → IsKeptOrPurged s (e ∷ es) (after_all next es) j r
      goes taken is =
          let left : next ≡ made s (WithoutJob j) = taken_is taken ∙ ap (made s) is in
          let within = at_most_highest s j r job.legal job.there in
          inr (record {
            gone = absent_all es next j (ap (λ (t : State). job_at t j) left ∙ without_own s j) (subst (λ (t : State). j ≤ t.highest) (sym left) within) legal;
            purge = subst (λ o. Contains (if_accepted e (accepted next es) o) (Purge j)) (sym taken) (0, omega arith, gone_by_purge e j is);
          })

      by_refusal : (o : Option Refusal) → refusal_of s e ≡ o → IsKeptOrPurged s (e ∷ es) (after_all next es) j r
      by_refusal (Some x) refused = stays (ap (λ o. job_at (unless_refused s e o) j) refused ∙ job.there)
      by_refusal None taken = elim (unchanged s j r job e (keeps_each law e) taken) [
        | inl same ↦ stays (ap (λ (t : State). job_at t j) (taken_is taken) ∙ same)
        | inr is ↦ goes taken is
      ]

  pub kept_all : (es : List Event) → Keeps es
  kept_all [] = λ s j r job. inl job.there
  kept_all (e ∷ es) = kept_next e es (kept_all es)

-- No event except its purge changes the job.
pub unchanged_but : (s : State) (j : ℕ) (r : Job) → HasEndedJob s j r → (e : Event) → ((effects : List Effect) → KeepsOrder effects) → refusal_of s e ≡ None → ¬ (e ≡ Purge j) → job_at (after s e) j ≡ Some r
unchanged_but s j r job e law taken other = elim (unchanged s j r job e (keeps_each law e) taken) [
  | inl same ↦ same
  | inr is ↦ absurd (other (gone_by_purge e j is))
]
