-- A round without a failure is that of Script.
use Rattle.std.proofs.Common.{◌≡◌, ℕ, ◌+◌, Bool, true, false, cond, List, [], ◌∷◌, length, map, fold, Option, Some, None, refl, sym, ap, subst, ◌∙◌, IsTrue, add-zero}
use Rattle.spool_types.specs.declared.rows.QueueRow.{QueueRow}
use Rattle.spool_types.specs.State.{Job, job_at, queue_at}
use Rattle.filter_args.specs.declared.place.Place.{Place}
use Rattle.child_pipeline.specs.ChildTraces.{ChildTrace, starts_next, after_start}
use Rattle.job_table.specs.DocumentLengths.{document_len}
use Rattle.child_pipeline.specs.Orders.{order_of}
use Rattle.child_pipeline.specs.StageSlots.{Slots, put_progress, progress_after, IsStartOf, input_in, order_in, slot_in}
use Rattle.child_pipeline.specs.declared.order.Order.{Order}
use Rattle.child_pipeline.specs.declared.runner.Progress.{Progress}
use Rattle.child_pipeline.specs.declared.runner.Progress.TheVariants.{Ready, Running, Ended}
use Rattle.print_rounds.specs.Choice.{slots_for}
use Rattle.print_rounds.specs.Counts.{started_by}
use Rattle.print_rounds.specs.RunStates.{Launching, IsToStart, IsToRest, IsInput, IsLaunch, AreLaunchings, AreHanded, given}
use Rattle.print_rounds.specs.declared.outcome.Launch.{Launch}
use Rattle.print_rounds.specs.declared.outcome.Launch.TheVariants.{Unlaunched, Launched, NoMemory, Disk, Dead}
use Rattle.print_rounds.specs.Faultless.{IsServed, AllServed}
use Rattle.print_rounds.specs.RoundScript.{Play, play_launch, launched_for, launched_in, launched_by, launched_on, plays}
use Rattle.print_rounds.proofs.LaunchLaws.{HasNumbers}

same_progress : (t : ChildTrace) (b : Bool) (n : ℕ) → b ≡ starts_next t → (IsTrue b → n ≡ length t.orders) → progress_after b n ≡ progress_after (starts_next t) (length t.orders)
same_progress t true n is number = ap (progress_after true) (number refl) ∙ ap (λ b. progress_after b (length t.orders)) is
same_progress t false n is number = ap (λ b. progress_after b (length t.orders)) is

-- The play after a launch if the spool is unchanged.
abbrev pub play_to : Play → Slots → ChildTrace → ℕ → Play
play_to p slots told more = record p { slots = slots; told = told; started = p.started + more }

abbrev pub counted : ℕ → List Launching → ℕ
counted n ls = fold (λ a l. a + started_by l.launch) n ls

abbrev pub play_at : Play → Slots → ChildTrace → ℕ → Play
play_at p slots told n = record p { slots = slots; told = told; started = n }

-- An order for a stage is the same with the document that was read and with the job's document.
same_input : (p : Progress ℕ) (len : ℕ) (d : Option (List ℕ)) (document : List ℕ) → IsInput p len d → ((read : List ℕ) → d ≡ Some read → read ≡ document) → input_in p (given d) ≡ input_in p document
same_input (Ready None) len None document is own = absurd is
same_input (Ready None) len (Some read) document is own = ap (λ (x : List ℕ). input_in (Ready None) x) (own read refl)
same_input (Ready (Some output)) len d document is own = refl
same_input (Running n) len d document is own = absurd is
same_input (Ended finish) len d document is own = absurd is

module _ (place : Place) (documents : ℕ → List ℕ) where
  undue : (p : Play) (j : ℕ) → IsToRest p.state p.slots j → play_launch place documents p j ≡ p
  undue p j rests = by_row (job_at p.state j) refl
    where
      by_own : (r : Job) (q : QueueRow) → job_at p.state j ≡ Some r → queue_at p.state r.queue ≡ Some q → (o : Option Slots) → slots_for p.slots r ≡ o → launched_by place documents p r q o ≡ p
      by_own r q row queue None is = refl
      by_own r q row queue (Some own) is = absurd (rests r q own (record { row = row; queue = queue; due = is }))

      by_queue : (r : Job) → job_at p.state j ≡ Some r → (o : Option QueueRow) → queue_at p.state r.queue ≡ o → launched_in place documents p r o ≡ p
      by_queue r row None is = refl
      by_queue r row (Some q) is = by_own r q row is (slots_for p.slots r) refl

      by_row : (o : Option Job) → job_at p.state j ≡ o → launched_for place documents p o ≡ p
      by_row None is = refl
      by_row (Some r) is = by_queue r is (queue_at p.state r.queue) refl

  due_play : (p : Play) (j : ℕ) (r : Job) (q : QueueRow) (own : Slots) → IsToStart p.state p.slots j r q own → play_launch place documents p j ≡ launched_on place documents p r q own
  due_play p j r q own due =
      ap (launched_for place documents p) due.row
      ∙ ap (launched_in place documents p r) due.queue
      ∙ ap (launched_by place documents p r q) due.due

  one_play : (p : Play) → HasNumbers p.state → (j : ℕ) (d : Option (List ℕ)) (l : Launch) (new : Slots) (told' : Option ChildTrace) → IsLaunch place p.state p.slots (Some p.told) j d l new told' → IsServed l → ((read : List ℕ) → d ≡ Some read → read ≡ documents j) → (t' : ChildTrace) × (told' ≡ Some t') × (play_launch place documents p j ≡ play_to p new t' (started_by l))
  one_play p numbers j d Unlaunched new told' (rests, none, same, tells) served own_is = (p.told, tells, undue p j rests ∙ sym (ap (λ k. record p { started = k }) (add-zero p.started)) ∙ ap (λ s. play_to p s p.told 0) (sym same))
  one_play p numbers j d (Launched b) new told' (r, q, own, due, input, starts) served own_is =
      let order = order_in place own r q (documents r.id) in
      let handed = same_input (slot_in own r.id).progress (document_len r) d (documents r.id) input (λ read is. own_is read is ∙ ap documents (sym (numbers j r due.row))) in
      let same : order_in place own r q (given d) ≡ order = ap (order_of place r q (slot_in own r.id).attempt (slot_in own r.id).stage) handed in
      let start : IsStartOf p.told order b starts.number told' = subst (λ (o : Order). IsStartOf p.told o b starts.number told') same starts.start in (
        after_start p.told order,
        start.told,
        due_play p j r q own due
            ∙ ap (λ v. play_to p (put_progress own r.id v) (after_start p.told order) (cond (starts_next p.told) 1 0)) (sym (same_progress p.told b starts.number start.answer start.number))
            ∙ ap (λ s. play_to p s (after_start p.told order) (cond (starts_next p.told) 1 0)) (sym starts.slots)
            ∙ ap (λ c. play_to p new (after_start p.told order) (cond c 1 0)) (sym start.answer),
      )
  one_play p numbers j d NoMemory new told' is served own_is = absurd served
  one_play p numbers j d Disk new told' is served own_is = absurd served
  one_play p numbers j d Dead new told' is served own_is = absurd served

  -- If memory sufficed for each, the starts of stages are those of Script: the orders, the slots and the count.
  pub all_played : (p : Play) → HasNumbers p.state → (told : Option ChildTrace) (ls : List Launching) (new : Slots) (told' : Option ChildTrace) → told ≡ Some p.told → AreLaunchings place p.state p.slots told ls new told' → AllServed ls → AreHanded documents ls → (t' : ChildTrace) × (told' ≡ Some t') × (plays (play_launch place documents) p (map (λ l. l.job) ls) ≡ play_at p new t' (counted p.started ls))
  all_played p numbers told [] new told' tells (same, tells') served handed = (p.told, tells' ∙ tells, ap (λ s. record p { slots = s }) (sym same))
  all_played p numbers told (l ∷ ls) new told' tells (launch, launches) (served, others) (here, handed) =
      let (t1, tells1, one) = one_play p numbers l.job l.document l.launch l.slots l.told (subst (λ o. IsLaunch place p.state p.slots o l.job l.document l.launch l.slots l.told) tells launch) served here in
      let p1 : Play = play_to p l.slots t1 (started_by l.launch) in
      let (t2, tells2, more) = all_played p1 numbers l.told ls new told' tells1 launches others handed in
      (t2, tells2, ap (λ q. plays (play_launch place documents) q (map (λ l. l.job) ls)) one ∙ more)
