-- One event. If it is the queue's own, the part refuses it or accepts it like the table. If it is not, the table may
-- change and the part does not.
use Rattle.std.proofs.Common.{◌≡◌, ℕ, ◌+◌, ◌≤◌, Bool, true, false, not, List, [], ◌∷◌, length, max, Some, None, Option, IsSome, Ok, refl, sym, ap, subst, ◌∙◌, arith}
use Rattle.std.specs.Prelude.{nat_le, nat_lt, is_none, is_some}
use Rattle.std.specs.Cmp.Lexicographic.{slice_cmp, nat_list_cmp_total}
use Rattle.std.specs.Ordering.{nat_cmp}
use Rattle.std.specs.FinMap as finite
use Rattle.std.proofs.lemmas.Bool.{both_ways}
use Rattle.std.proofs.lemmas.Bool.Decides.{nat_tests}
use Rattle.std.proofs.lemmas.Map.Lookups.{exact_bytes}
use Rattle.spool_types.specs.declared.event.Event.{Event}
use Rattle.spool_types.specs.declared.event.Event.TheVariants.{Send, Close, Hold, Release, Start, Stage, Abandon, Purge}
use Rattle.spool_types.specs.declared.event.Reply.TheVariants.{Size, Phase as PhaseNow}
use Rattle.spool_types.specs.declared.refusal.Refusal.{Refusal}
use Rattle.spool_types.specs.declared.refusal.Refusal.TheVariants.{NoQueue, QueueExists, TooManyQueues, NotAccepting, NoJob, NotIncoming, TooLong, OldNumber, NoNumberLeft, JobEnded, NotWaiting, NotNext, NotProcessing, WrongStage, NotHeld, NotEnded, NeedsCheckpoint}
use Rattle.spool_types.specs.declared.rows.QueueRow.{QueueRow}
use Rattle.spool_types.specs.Busy.{is_of}
use Rattle.spool_types.specs.Limits.{most_queues, longest_document, greatest_number}
use Rattle.spool_types.specs.Phases.{has_ended, is_incoming, is_processing, is_waiting, hold_of, is_in_force}
use Rattle.spool_types.specs.State.{State, Job, queue_at, job_at}
use Rattle.job_table.specs.Apart.{IsPart, own_of, names_it, is_own, is_own_job}
use Rattle.job_table.specs.Attempts.{is_next, is_in_stage, with_effects}
use Rattle.job_table.specs.EventChanges.{change_job}
use Rattle.job_table.specs.Ended.{IsAbout, subject}
use Rattle.job_table.specs.EventFold.{after_one, unless_refused}
use Rattle.job_table.specs.Legal.{IsLegal}
use Rattle.job_table.specs.Shapes.{Change, NewQueueRow, OfQueue, NewJobRow, OfJob, OfBoth, WithoutJob, OfClock, OfAll, IsOfOne, subject_of, causes_of, made, lacks_by, lacks_purge, where_it, passes, about_queue, about_job}
use Rattle.job_table.specs.Step.{row, change_by, refusal_of, after, reply_to, answer_to, unless_refused_reply, first_cause, phase_found, size_found}
use Rattle.job_table.proofs.Accepted.{none_first, accepted_new, queue_absent}
use Rattle.job_table.proofs.Changes.{not_both, changed_there}
use Rattle.job_table.proofs.Ended.{number_of}
use Rattle.job_table.proofs.Legal.{KeepsBy, Keeps, IsSound, sound, legal_effects}
use Rattle.job_table.proofs.Part.{of_both, own_job, own_queue, same_name, part_there, part_queue, part_put, part_put_other, part_without, part_without_other, part_named, part_named_other, part_clock, part_change, part_change_other, part_change_queue, part_change_queue_other}
use Rattle.job_table.proofs.PartLoss.{HasOwn, part_rule, part_rule_other, rule_own, effects_own, part_effects, part_effects_other, part_reopened}
use Rattle.job_table.proofs.PartNext.{same_next}

-- A cause that does not apply, followed by the others.
further : (b : Bool) (r : Refusal) (cs : List (Bool × Refusal)) → b ≡ false → first_cause cs ≡ None → first_cause ((b, r) ∷ cs) ≡ None
further true r cs is rest = absurd (cc)
further false r cs is rest = rest

below_too : (m a b : ℕ) → a ≤ b → nat_le m b ≡ false → nat_le m a ≡ false
below_too m a b most e = grind (arith, nat_tests)

same_job : (name : List ℕ) (s t : State) → IsPart name s t → (j : ℕ) → is_own_job name (job_at s j) ≡ true → job_at t j ≡ job_at s j
same_job name s t part j own = let found = own_job name (job_at s j) own in part_there name s t part j found.0 found.1 found.2 ∙ sym found.1

-- ## The causes and the reply of an event

-- The event's own causes agree, and so does its reply if the job that it is about is the same afterwards.
record IsAlike (s t : State) (e : Event) : Type 0 where
  own : (row e).own t ≡ (row e).own s
  reply : (u v : State) → ((j : ℕ) → subject e ≡ Some j → job_at v j ≡ job_at u j) → (row e).reply t v ≡ (row e).reply s u

alike : (name : List ℕ) (s t : State) → IsPart name s t → IsLegal s → IsLegal t → (e : Event) → is_own s name e ≡ true → IsAlike s t e
alike name s t part legal legal_part (Send j bytes) own = record {
  own = ap (λ o. where_it o (λ (r : Job). not (is_incoming r.phase)) NotIncoming ∷ where_it o (λ (r : Job). nat_lt longest_document (r.size + length bytes)) TooLong ∷ []) (same_job name s t part j own);
  reply = λ u v same. ap (λ o. Size (size_found o + length bytes)) (same_job name s t part j own);
}
alike name s t part legal legal_part (Close c) own = record {
  own = ap (λ o. where_it o (λ (r : Job). not (is_incoming r.phase)) NotIncoming ∷ []) (same_job name s t part c.job own);
  reply = λ u v same. refl;
}
alike name s t part legal legal_part (Hold j until) own = record {
  own = ap (λ o. where_it o (λ (r : Job). is_processing r.phase) NotWaiting ∷ []) (same_job name s t part j own);
  reply = λ u v same. refl;
}
alike name s t part legal legal_part (Release j) own = record {
  own =
      ap (λ o. where_it o (λ (r : Job). is_processing r.phase) NotWaiting ∷ where_it o (λ (r : Job). not (is_in_force t.moment (hold_of r.phase))) NotHeld ∷ []) (same_job name s t part j own)
      ∙ ap (λ m. where_it (job_at s j) (λ (r : Job). is_processing r.phase) NotWaiting ∷ where_it (job_at s j) (λ (r : Job). not (is_in_force m (hold_of r.phase))) NotHeld ∷ []) part.moment;
  reply = λ u v same. refl;
}
alike name s t part legal legal_part (Start j) own = record {
  own = by_job (own_job name (job_at s j) own);
  reply = λ u v same. ap (λ o. PhaseNow (phase_found o)) (same j refl);
}
  where
    by_job : (r : Job) × (job_at s j ≡ Some r) × (is_of name r ≡ true) → (row (Start j)).own t ≡ (row (Start j)).own s
    by_job (r, there, is) =
        ap (λ o. where_it o (λ (x : Job). not (is_waiting x.phase)) NotWaiting ∷ where_it o (λ (x : Job). not (is_next t x)) NotNext ∷ []) (part_there name s t part j r there is)
        ∙ ap (λ b. (not (is_waiting r.phase), NotWaiting) ∷ (not b, NotNext) ∷ []) (same_next name s t part legal legal_part r is)
        ∙ sym (ap (λ o. where_it o (λ (x : Job). not (is_waiting x.phase)) NotWaiting ∷ where_it o (λ (x : Job). not (is_next s x)) NotNext ∷ []) there)
alike name s t part legal legal_part (Stage e) own = record {
  own = ap (λ o. where_it o (λ (r : Job). not (is_processing r.phase)) NotProcessing ∷ where_it o (λ (r : Job). not (is_in_stage e.attempt e.stage r.phase)) WrongStage ∷ []) (same_job name s t part e.job own);
  reply = λ u v same. ap (λ o. PhaseNow (phase_found o)) (same e.job refl);
}
alike name s t part legal legal_part (Abandon j) own = record {
  own = ap (λ o. where_it o (λ (r : Job). not (is_processing r.phase)) NotProcessing ∷ []) (same_job name s t part j own);
  reply = λ u v same. ap (λ o. PhaseNow (phase_found o)) (same j refl);
}
alike name s t part legal legal_part (Purge j) own = record {
  own = ap (λ o. where_it o (λ (r : Job). not (has_ended r.phase)) NotEnded ∷ []) (same_job name s t part j own);
  reply = λ u v same. refl;
}
alike name s t part legal legal_part e own = record { own = refl; reply = λ u v same. refl }

module _ (name : List ℕ) (s t : State) (part : IsPart name s t) (legal : IsLegal s) (legal_part : IsLegal t) where
  -- The job belongs to the queue.
  abbrev its : ℕ → Bool
  its j = is_own_job name (job_at s j)

  -- ## Refusals

  same_causes : (change : Change) (a b : List (Bool × Refusal)) → IsOfOne change → names_it name its change ≡ true → a ≡ b → causes_of t change a ≡ causes_of s change b
  same_causes (NewQueueRow q) a b about own same = absurd about
  same_causes (OfQueue k f) a b about own same = ap (λ o. (is_none o, NoQueue) ∷ a) (part_queue name s t part k own) ∙ ap (about_queue s k) same
  same_causes (NewJobRow r) a b about own same = absurd about
  same_causes (OfJob j f) a b about own same = ap (λ o. (is_none o, NoJob) ∷ where_it o (λ (r : Job). has_ended r.phase) JobEnded ∷ a) (same_job name s t part j own) ∙ ap (about_job s j) same
  same_causes (OfBoth j effects verdict) a b about own same = ap (λ o. (is_none o, NoJob) ∷ where_it o (λ (r : Job). has_ended r.phase) JobEnded ∷ a) (same_job name s t part j own) ∙ ap (about_job s j) same
  same_causes (WithoutJob j) a b about own same =
      ap (λ v. (lacks_purge v, NeedsCheckpoint) ∷ (is_none (job_at t j), NoJob) ∷ a) part.version
      ∙ ap (λ o. (lacks_purge s.version, NeedsCheckpoint) ∷ (is_none o, NoJob) ∷ a) (same_job name s t part j own)
      ∙ ap (λ cs. (lacks_purge s.version, NeedsCheckpoint) ∷ (is_none (job_at s j), NoJob) ∷ cs) same
  same_causes (OfClock m) a b about own same = absurd about
  same_causes OfAll a b about own same = absurd about

  pub same_refusal : (e : Event) → IsAbout e → is_own s name e ≡ true → refusal_of t e ≡ refusal_of s e
  same_refusal e about own = ap first_cause (same_causes (change_by e) ((row e).own t) ((row e).own s) about own (alike name s t part legal legal_part e own).own)

  -- A queue that the table may add is the first one of its part.
  no_queues : queue_at t name ≡ None → finite.len t.queues ≡ 0
  no_queues none = ap finite.len (finite.same_map nat_list_cmp_total exact_bytes t.queues finite.empty (λ k. absent k (queue_at t k) refl ∙ sym (finite.get-empty (slice_cmp nat_cmp) k))) ∙ finite.len-empty (slice_cmp nat_cmp) QueueRow
    where
      absent : (k : List ℕ) (o : Option QueueRow) → queue_at t k ≡ o → queue_at t k ≡ None
      absent k None at = at
      absent k (Some q) at = absurd (not_both (queue_at t name) q none (ap (queue_at t) (sym (part.only k (subst IsSome (sym at) refl))) ∙ at))

  -- An event that the table accepts is accepted by its part.
  accepted_by : (change : Change) (a b : List (Bool × Refusal)) → names_it name its change ≡ true → a ≡ b → first_cause (causes_of s change b) ≡ None → first_cause (causes_of t change a) ≡ None
  accepted_by (NewQueueRow q) a b own same accepted =
      let one = none_first (is_some (queue_at s q.name)) QueueExists ((nat_le most_queues (finite.len s.queues), TooManyQueues) ∷ b) accepted in
      let two = none_first (nat_le most_queues (finite.len s.queues)) TooManyQueues b one.1 in
      let none = part_queue name s t part q.name own ∙ queue_absent s q b accepted in
      ap (λ (o : Option QueueRow). first_cause ((is_some o, QueueExists) ∷ (nat_le most_queues (finite.len t.queues), TooManyQueues) ∷ a)) none
      ∙ ap (λ n. first_cause ((nat_le most_queues n, TooManyQueues) ∷ a)) (no_queues (ap (queue_at t) (sym (same_name name q.name own)) ∙ none))
      ∙ ap first_cause same
      ∙ two.1
  accepted_by (NewJobRow r) a b own same accepted =
      let zero = none_first (lacks_by s.version r.by) NeedsCheckpoint (about_queue s r.queue (where_it (queue_at s r.queue) (λ q. not q.accepting) NotAccepting ∷ (nat_le greatest_number s.highest, NoNumberLeft) ∷ (nat_le r.id s.highest, OldNumber) ∷ b)) accepted in
      let one = none_first (is_none (queue_at s r.queue)) NoQueue (where_it (queue_at s r.queue) (λ q. not q.accepting) NotAccepting ∷ (nat_le greatest_number s.highest, NoNumberLeft) ∷ (nat_le r.id s.highest, OldNumber) ∷ b) zero.1 in
      let two = none_first (passes (λ q. not q.accepting) (queue_at s r.queue)) NotAccepting ((nat_le greatest_number s.highest, NoNumberLeft) ∷ (nat_le r.id s.highest, OldNumber) ∷ b) one.1 in
      let three = none_first (nat_le greatest_number s.highest) NoNumberLeft ((nat_le r.id s.highest, OldNumber) ∷ b) two.1 in
      let four = none_first (nat_le r.id s.highest) OldNumber b three.1 in
      further (lacks_by t.version r.by) NeedsCheckpoint (about_queue t r.queue (where_it (queue_at t r.queue) (λ q. not q.accepting) NotAccepting ∷ (nat_le greatest_number t.highest, NoNumberLeft) ∷ (nat_le r.id t.highest, OldNumber) ∷ a)) (ap (λ v. lacks_by v r.by) part.version ∙ zero.0)
      (ap (λ o. first_cause ((is_none o, NoQueue) ∷ where_it o (λ (q : QueueRow). not q.accepting) NotAccepting ∷ (nat_le greatest_number t.highest, NoNumberLeft) ∷ (nat_le r.id t.highest, OldNumber) ∷ a)) (part_queue name s t part r.queue own)
      ∙ further (is_none (queue_at s r.queue)) NoQueue (where_it (queue_at s r.queue) (λ q. not q.accepting) NotAccepting ∷ (nat_le greatest_number t.highest, NoNumberLeft) ∷ (nat_le r.id t.highest, OldNumber) ∷ a) one.0
      (further (passes (λ q. not q.accepting) (queue_at s r.queue)) NotAccepting ((nat_le greatest_number t.highest, NoNumberLeft) ∷ (nat_le r.id t.highest, OldNumber) ∷ a) two.0
      (further (nat_le greatest_number t.highest) NoNumberLeft ((nat_le r.id t.highest, OldNumber) ∷ a) (below_too greatest_number t.highest s.highest part.highest three.0)
      (further (nat_le r.id t.highest) OldNumber a (below_too r.id t.highest s.highest part.highest four.0) (ap first_cause same ∙ four.1)))))
  accepted_by (OfQueue k f) a b own same accepted = ap first_cause (same_causes (OfQueue k f) a b tt own same) ∙ accepted
  accepted_by (OfJob j f) a b own same accepted = ap first_cause (same_causes (OfJob j f) a b tt own same) ∙ accepted
  accepted_by (OfBoth j effects verdict) a b own same accepted = ap first_cause (same_causes (OfBoth j effects verdict) a b tt own same) ∙ accepted
  accepted_by (WithoutJob j) a b own same accepted = ap first_cause (same_causes (WithoutJob j) a b tt own same) ∙ accepted
  accepted_by (OfClock m) a b own same accepted = ap first_cause same ∙ accepted
  accepted_by OfAll a b own same accepted = ap first_cause same ∙ accepted

  pub accepted_too : (e : Event) → is_own s name e ≡ true → refusal_of s e ≡ None → refusal_of t e ≡ None
  accepted_too e own accepted = accepted_by (change_by e) ((row e).own t) ((row e).own s) own (alike name s t part legal legal_part e own).own accepted

  -- ## The tables after the event

  change_both : (j : ℕ) (f : Job → Job) → ((r : Job) → (f r).queue ≡ r.queue) → its j ≡ true → IsPart name (change_job s j f) (change_job t j f)
  change_both j f keeps own = let found = own_job name (job_at s j) own in part_change name s t part j f found.0 found.1 found.2 (keeps found.0)

  part_by : (change : Change) → KeepsBy change → IsSound s change → names_it name its change ≡ true → IsPart name (made s change) (made t change)
  part_by (NewQueueRow q) keeps fine own = part_named name s t part q.name q own
  part_by (OfQueue k f) keeps fine own = part_change_queue name s t part k f own
  part_by (NewJobRow r) keeps fine own = part_put name s t part r.id r r.id r.id (omega arith) own
  part_by (OfJob j f) keeps fine own = change_both j f (λ r. (fine.same r).queue) own
  part_by (OfBoth j None verdict) keeps fine own = let found = own_job name (job_at s j) own in part_rule name s t part legal j verdict found.0 found.1 found.2
  part_by (OfBoth j (Some effects) verdict) keeps fine own =
      let found = own_job name (job_at s j) own in
      part_rule name (with_effects s j effects) (with_effects t j effects) (part_effects name s t part j effects found.0 found.1 found.2)
      (legal_effects s j effects keeps legal) j verdict _ (effects_own name s t part j effects found.0 found.1) found.2
  part_by (WithoutJob j) keeps fine own = part_without name s t part j
  part_by (OfClock m) keeps fine own = part_clock name s t part (max s.moment m) (max t.moment m) (ap (λ n. max n m) part.moment)
  part_by OfAll keeps fine own = part_reopened name s t part legal legal_part

  part_after : (e : Event) → Keeps e → is_own s name e ≡ true → refusal_of s e ≡ None → IsPart name (after s e) (after t e)
  part_after e keeps own accepted = part_by (change_by e) keeps (sound s e accepted) own

  -- ## The reply to the event

  -- The job of the event exists afterwards.
  own_by : (change : Change) (j : ℕ) → KeepsBy change → IsSound s change → names_it name its change ≡ true → subject_of change ≡ Some j → HasOwn name (made s change) j
  own_by (NewQueueRow q) j keeps fine own is = absurd (cc)
  own_by (OfQueue k f) j keeps fine own is = absurd (cc)
  own_by (NewJobRow r) j keeps fine own is = absurd (cc)
  own_by (OfJob k f) j keeps fine own is =
      let found = own_job name (job_at s k) own in
      subst (HasOwn name (change_job s k f)) (number_of j k is) (f found.0, changed_there s k f found.0 found.1, own_queue name found.0 (f found.0) (fine.same found.0).queue true found.2)
  own_by (OfBoth k None verdict) j keeps fine own is =
      let found = own_job name (job_at s k) own in
      subst (HasOwn name (made s (OfBoth k None verdict))) (number_of j k is) (rule_own name s t part legal k verdict found.0 found.1 found.2)
  own_by (OfBoth k (Some effects) verdict) j keeps fine own is =
      let found = own_job name (job_at s k) own in
      subst (HasOwn name (made s (OfBoth k (Some effects) verdict))) (number_of j k is)
      (rule_own name (with_effects s k effects) (with_effects t k effects) (part_effects name s t part k effects found.0 found.1 found.2)
      (legal_effects s k effects keeps legal) k verdict _ (effects_own name s t part k effects found.0 found.1) found.2)
  own_by (WithoutJob k) j keeps fine own is = absurd (cc)
  own_by (OfClock m) j keeps fine own is = absurd (cc)
  own_by OfAll j keeps fine own is = absurd (cc)

  same_reply : (e : Event) → Keeps e → is_own s name e ≡ true → refusal_of s e ≡ None → reply_to t e ≡ reply_to s e
  same_reply e keeps own accepted = (alike name s t part legal legal_part e own).reply (after s e) (after t e) (λ j is.
      let found = own_by (change_by e) j keeps (sound s e accepted) own is in
      part_there name (after s e) (after t e) (part_after e keeps own accepted) j found.0 found.1 found.2 ∙ sym found.1)

  pub same_answer : (e : Event) → Keeps e → IsAbout e → is_own s name e ≡ true → answer_to s e ≡ answer_to t e
  same_answer e keeps about own = by_refusal (refusal_of s e) refl ∙ sym (ap (unless_refused_reply t e) (same_refusal e about own))
    where
      by_refusal : (o : Option Refusal) → refusal_of s e ≡ o → unless_refused_reply s e o ≡ unless_refused_reply t e o
      by_refusal None accepted = ap Ok (sym (same_reply e keeps own accepted))
      by_refusal (Some x) refused = refl

  -- ## The tables after an accepted or refused event

  pub part_after_one : (e : Event) → Keeps e → is_own s name e ≡ true → refusal_of s e ≡ None → IsPart name (after_one s e) (after_one t e)
  part_after_one e keeps own accepted = of_both (IsPart name) _ _ (after s e) (after t e) (ap (unless_refused s e) accepted) (ap (unless_refused t e) (accepted_too e own accepted)) (part_after e keeps own accepted)

  pub part_either : (e : Event) → Keeps e → IsAbout e → is_own s name e ≡ true → IsPart name (after_one s e) (after_one t e)
  part_either e keeps about own = by_refusal (refusal_of s e) refl
    where
      by_refusal : (o : Option Refusal) → refusal_of s e ≡ o → IsPart name (after_one s e) (after_one t e)
      by_refusal None accepted = part_after_one e keeps own accepted
      by_refusal (Some x) refused = of_both (IsPart name) _ _ s t (ap (unless_refused s e) refused) (ap (unless_refused t e) (same_refusal e about own ∙ refused)) part

module _ (name : List ℕ) (s t : State) (part : IsPart name s t) (legal : IsLegal s) where
  other_by : (change : Change) (own : List (Bool × Refusal)) → KeepsBy change → IsSound s change → names_it name (λ j. is_own_job name (job_at s j)) change ≡ false → first_cause (causes_of s change own) ≡ None → IsPart name (made s change) t
  other_by (NewQueueRow q) own keeps fine other accepted = part_named_other name s t part q.name q other
  other_by (OfQueue k f) own keeps fine other accepted = part_change_queue_other name s t part k f other
  other_by (NewJobRow r) own keeps fine other accepted =
      let above = accepted_new s r own accepted in
      let most = part.highest in
      part_put_other name s t part r.id r r.id (omega (arith, above, most)) (ap (own_of name) (legal.numbers r.id above)) other
  other_by (OfJob j f) own keeps fine other accepted = part_change_other name s t part j f other (λ r. (fine.same r).queue)
  other_by (OfBoth j None verdict) own keeps fine other accepted = part_rule_other name s t part legal j verdict other
  other_by (OfBoth j (Some effects) verdict) own keeps fine other accepted =
      let told = part_effects_other name s t part j effects other in
      part_rule_other name (with_effects s j effects) t told.0 (legal_effects s j effects keeps legal) j verdict told.1
  other_by (WithoutJob j) own keeps fine other accepted = part_without_other name s t part j other
  other_by (OfClock m) own keeps fine other accepted = absurd (both_ways _ other refl)
  other_by OfAll own keeps fine other accepted = absurd (both_ways _ other refl)

  pub part_after_one_other : (e : Event) → Keeps e → is_own s name e ≡ false → refusal_of s e ≡ None → IsPart name (after_one s e) t
  part_after_one_other e keeps other accepted =
      subst (λ u. IsPart name u t) (sym (ap (unless_refused s e) accepted)) (other_by (change_by e) ((row e).own s) keeps (sound s e accepted) other accepted)
