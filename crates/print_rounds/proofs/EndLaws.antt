-- Each child that is running when the first child is finished is finished once.
use Rattle.std.proofs.Common.{◌≡◌, ℕ, suc, ◌+◌, Bool, ◌&&◌, nat_lt, true, false, cond, ◌==◌, ◌||◌, List, [], ◌∷◌, length, map, Option, Some, None, unwrap_or, refl, sym, ap, subst, ◌∙◌, arith, add-zero, Ok, Err}
use Rattle.std.specs.Cmp.{nat_cmp_total, eq_by_cmp_equiv, unsigned_tied}
use Rattle.spool_disk.specs.Disk.{DiskView}
use Rattle.std.specs.FinMap as finite
use Rattle.std.proofs.lemmas.Bool.{eqb-true}
use Rattle.spool_types.specs.declared.event.Reply.{Reply}
use Rattle.spool_types.specs.declared.event.Reply.TheVariants as replies
use Rattle.spool_types.specs.Phases.{is_processing}
use Rattle.child_pipeline.specs.ChildTraces.{ChildTrace, is_in, without, after_finish}
use Rattle.child_pipeline.specs.StageSlots.{Slots, slot_in, begun, with_progress, FinishesFrom, Waits, IsFinish, advanced, advanced_in, is_ready, is_running, IsTicketless}
use Rattle.child_pipeline.specs.declared.runner.Progress.{Progress}
use Rattle.child_pipeline.specs.declared.runner.Progress.TheVariants.{Ready, Running, Ended}
use Rattle.child_pipeline.specs.declared.runner.Slot.{Slot}
use Rattle.print_rounds.specs.RunStates.{RunState, Answer, Ending, IsReport, IsEnding, IsEndingOf, AreEndings, is_silent, moved, moved_by}
use Rattle.print_rounds.specs.declared.outcome.Report.{Report}
use Rattle.print_rounds.specs.declared.outcome.Report.TheVariants as reports
use Rattle.print_rounds.specs.Finished.{AreDistinct, with_number, with_slot, running_in, after_finishes, AreFinished}

pub get_own : (m : Slots) (j : ℕ) (x : Slot ℕ) → finite.get (finite.insert m j x) j ≡ Some x
get_own m j x = finite.get-insert nat_cmp_total m j x j ∙ ap (λ b. cond b (Some x) (finite.get m j)) ((eq_by_cmp_equiv nat_cmp_total).refl j)

-- A slot of another job.
pub get_other : (m : Slots) (j k : ℕ) (x : Slot ℕ) → (k == j) ≡ false → finite.get (finite.insert m j x) k ≡ finite.get m k
get_other m j k x other = finite.get-insert nat_cmp_total m j x k ∙ ap (λ b. cond b (Some x) (finite.get m k)) (unsigned_tied k j ∙ other)

pub get_left : (m : Slots) (j k : ℕ) → (k == j) ≡ false → finite.get (finite.remove m j) k ≡ finite.get m k
get_left m j k other = finite.get-remove nat_cmp_total m j k ∙ ap (λ b. cond b None (finite.get m k)) (unsigned_tied k j ∙ other)

pub turned : (j k : ℕ) → (j == k) ≡ false → (k == j) ≡ false
turned j k h = sym (unsigned_tied k j) ∙ (eq_by_cmp_equiv nat_cmp_total).symm k j ∙ unsigned_tied j k ∙ h

-- The slots of all other jobs are unchanged.
abbrev pub SameBut : ℕ → Slots → Slots → Type 0
SameBut j m n = (k : ℕ) → (k == j) ≡ false → finite.get n k ≡ finite.get m k

pub not_first : (a b : Bool) → (a || b) ≡ false → a ≡ false
not_first true b h = absurd (cc)
not_first false b h = refl

pub not_second : (a b : Bool) → (a || b) ≡ false → b ≡ false
not_second true b h = absurd (cc)
not_second false b h = h

-- So the children of other jobs still run.
pub running_same : (j : ℕ) (m n : Slots) → SameBut j m n → (js : List ℕ) → is_in j js ≡ false → running_in n js ≡ running_in m js
running_same j m n same [] out = refl
running_same j m n same (k ∷ js) out =
    ap (λ o. with_slot o (running_in n js)) (same k (not_first (k == j) (is_in j js) out))
    ∙ ap (λ ns. with_slot (finite.get m k) ns) (running_same j m n same js (not_second (k == j) (is_in j js) out))

eq_self : (n : ℕ) → (n == n) ≡ true
eq_self n = sym (unsigned_tied n n) ∙ (eq_by_cmp_equiv nat_cmp_total).refl n

pub without_head : (n : ℕ) (ns : List ℕ) → without n (n ∷ ns) ≡ ns
without_head n ns = ap (λ b. cond b ns (n ∷ without n ns)) (eq_self n)

pub in_head : (n : ℕ) (ns : List ℕ) → is_in n (n ∷ ns) ≡ true
in_head n ns = ap (λ b. b || is_in n ns) (eq_self n)

reply_same : (m : Slots) (j : ℕ) (r : Reply) → SameBut j m (moved_by m j r)
reply_same m j replies.Done = λ k other. get_left m j k other
reply_same m j (replies.Number n) = λ k other. get_left m j k other
reply_same m j (replies.Size n) = λ k other. get_left m j k other
reply_same m j (replies.Phase p) = by_phase (is_processing p && nat_lt (slot_in m j).stage 16)
  where
    by_phase : (b : Bool) → SameBut j m (cond b (advanced_in m j) (finite.remove m j))
    by_phase true = λ k other. get_other m j k (advanced (slot_in m j)) other
    by_phase false = λ k other. get_left m j k other

pub moved_same : (m : Slots) (j : ℕ) (a : Answer) → SameBut j m (moved m j a)
moved_same m j (Ok r) = reply_same m j r
moved_same m j (Err fault) = λ k other. refl

one_more : (a b : ℕ) → (a + 1) + b ≡ a + suc b
one_more a b = omega arith

module _ {D : Type 0} (device : DiskView D) where
  -- A report changes only the slot of its job, and calls no child.
  pub report_same : (old : RunState D) (j : ℕ) (r : Report) (new : RunState D) → IsReport device old j r new → (new.told ≡ old.told) × SameBut j old.slots new.slots
  report_same old j reports.Silent new none = absurd none
  report_same old j reports.NoMemory new same = (ap (λ (c : RunState D). c.told) same, λ k other. ap (λ (c : RunState D). finite.get c.slots k) same)
  report_same old j (reports.Answered a) new report = (report.2, λ k other. ap (λ m. finite.get m k) report.1 ∙ moved_same old.slots j a k other)

  -- The result of the end of one stage.
  pub record IsOneEnd (t : ChildTrace) (old : RunState D) (j : ℕ) (js : List ℕ) (new : RunState D) : Type 0 where
    pub told : ChildTrace
    pub tells : new.told ≡ Some told
    pub orders : told.orders ≡ t.orders
    pub running : told.running ≡ running_in old.slots js
    pub same : SameBut j old.slots new.slots
    pub only : after_finishes t (running_in old.slots (j ∷ js)) ≡ after_finishes told (running_in old.slots js)
    pub finished : told.finished + length (running_in old.slots js) ≡ t.finished + length (running_in old.slots (j ∷ js))

  pub one_end : (t : ChildTrace) (old : RunState D) (e : Ending D) (js : List ℕ) → IsEnding device old e → old.told ≡ Some t → t.running ≡ running_in old.slots (e.job ∷ js) → IsOneEnd t old e.job js e.next
  one_end t old e js ends tells runs = by_slot (finite.get old.slots e.job) refl
    where
      unchanged : with_slot (finite.get old.slots e.job) (running_in old.slots js) ≡ running_in old.slots js → e.next ≡ old → IsOneEnd t old e.job js e.next
      unchanged silent is = record {
        told = t;
        tells = ap (λ (c : RunState D). c.told) is ∙ tells;
        orders = refl;
        running = runs ∙ silent;
        same = λ k other. ap (λ (c : RunState D). finite.get c.slots k) is;
        only = ap (after_finishes t) silent;
        finished = ap (λ ns. t.finished + length ns) (sym silent);
      }

      by_progress : (slot : Slot ℕ) (p : Progress ℕ) → finite.get old.slots e.job ≡ Some slot → slot.progress ≡ p → IsEndingOf device old (is_ready p) e → IsOneEnd t old e.job js e.next
      by_progress slot (Ready input) there is ending = unchanged (ap (λ o. with_slot o (running_in old.slots js)) there ∙ ap (λ p. with_number p (running_in old.slots js)) is) ending.2
      by_progress slot (Running n) there is ending =
          let at : (slot_in old.slots e.job).progress ≡ Running n = ap (λ o. (unwrap_or o (begun 0 0)).progress) there ∙ is in
          let fin : Waits old.told n old.slots e.job e.kept.slots e.kept.told = subst (λ p. FinishesFrom p old.told old.slots e.job e.kept.slots e.kept.told) at ending.0 in
          let first : running_in old.slots (e.job ∷ js) ≡ n ∷ running_in old.slots js = ap (λ o. with_slot o (running_in old.slots js)) there ∙ ap (λ p. with_number p (running_in old.slots js)) is in
          let told : e.kept.told ≡ Some (after_finish t n) = (subst (λ o. IsFinish o n fin.finish e.kept.told) tells fin.answer (ap (λ ns. is_in n ns) (runs ∙ first) ∙ in_head n (running_in old.slots js))).1 in
          let report = report_same e.kept e.job e.report e.next ending.2 in
          record {
            told = after_finish t n;
            tells = report.0 ∙ told;
            orders = refl;
            running = ap (λ ns. without n ns) (runs ∙ first) ∙ without_head n (running_in old.slots js);
            only = ap (after_finishes t) first;
            same = λ k other. report.1 k other ∙ ap (λ m. finite.get m k) fin.slots ∙ get_other old.slots e.job k (with_progress (slot_in old.slots e.job) (Ended fin.finish)) other;
            finished = one_more t.finished (length (running_in old.slots js)) ∙ ap (λ ns. t.finished + length ns) (sym first);
          }
      by_progress slot (Ended finish) there is ending =
          let at : (slot_in old.slots e.job).progress ≡ Ended finish = ap (λ o. (unwrap_or o (begun 0 0)).progress) there ∙ is in
          let fin : (e.kept.slots ≡ old.slots) × (e.kept.told ≡ old.told) = subst (λ p. FinishesFrom p old.told old.slots e.job e.kept.slots e.kept.told) at ending.0 in
          let rest : running_in old.slots (e.job ∷ js) ≡ running_in old.slots js = ap (λ o. with_slot o (running_in old.slots js)) there ∙ ap (λ p. with_number p (running_in old.slots js)) is in
          let report = report_same e.kept e.job e.report e.next ending.2 in
          record {
            told = t;
            tells = report.0 ∙ fin.1 ∙ tells;
            orders = refl;
            running = runs ∙ rest;
            same = λ k other. report.1 k other ∙ ap (λ m. finite.get m k) fin.0;
            only = ap (after_finishes t) rest;
            finished = ap (λ ns. t.finished + length ns) (sym rest);
          }

      by_slot : (o : Option (Slot ℕ)) → finite.get old.slots e.job ≡ o → IsOneEnd t old e.job js e.next
      by_slot None there = unchanged (ap (λ o. with_slot o (running_in old.slots js)) there) (subst (λ o. IsEndingOf device old (is_silent o) e) there ends).2
      by_slot (Some slot) there = by_progress slot slot.progress there refl (subst (λ o. IsEndingOf device old (is_silent o) e) there ends)

  -- Each running child was finished once, and no other, whatever the answers to the events.
  pub ends_finished : (t : ChildTrace) (old : RunState D) (es : List (Ending D)) (new : RunState D) → AreEndings device old es new → old.told ≡ Some t → t.running ≡ running_in old.slots (map (λ e. e.job) es) → AreDistinct (map (λ e. e.job) es) → (t' : ChildTrace) × (new.told ≡ Some t') × AreFinished t old.slots (map (λ e. e.job) es) t'
  ends_finished t old [] new same tells runs distinct = (t, ap (λ (c : RunState D). c.told) same ∙ tells, record { only = refl; orders = refl; running = runs; finished = sym (add-zero t.finished) })
  ends_finished t old (e ∷ es) new ends tells runs distinct =
      let js : List ℕ = map (λ e. e.job) es in
      let one = one_end t old e js ends.0 tells runs in
      let rest : running_in e.next.slots js ≡ running_in old.slots js = running_same e.job old.slots e.next.slots one.same js distinct.0 in
      let more = ends_finished one.told e.next es new ends.1 one.tells (one.running ∙ sym rest) distinct.1 in (
        more.0,
        more.1,
        record {
          only = more.2.only ∙ ap (after_finishes one.told) rest ∙ sym one.only;
          orders = more.2.orders ∙ one.orders;
          running = more.2.running;
          finished = more.2.finished ∙ ap (λ ns. one.told.finished + length ns) rest ∙ one.finished;
        },
      )

-- A slot without a running child adds no number.
pub quiet : (o : Option (Slot ℕ)) → IsTicketless o → with_slot o [] ≡ []
quiet None rests = refl
quiet (Some slot) rests = by_progress slot.progress refl
  where
    by_progress : (p : Progress ℕ) → slot.progress ≡ p → with_number p [] ≡ []
    by_progress (Ready input) is = refl
    by_progress (Running n) is = absurd (rests n is)
    by_progress (Ended finish) is = refl

-- A stage that is not running has no ticket.
pub ticketless : (o : Option (Slot ℕ)) (slot : Slot ℕ) (p : Progress ℕ) → o ≡ Some slot → slot.progress ≡ p → is_running p ≡ false → IsTicketless o
ticketless o slot p there is rests = subst IsTicketless (sym there) (λ n runs.
    let not : is_running p ≡ true = ap is_running (sym is) ∙ ap is_running runs in
    absurd (cc))

pub none_ticketless : (o : Option (Slot ℕ)) → o ≡ None → IsTicketless o
none_ticketless o absent = subst IsTicketless (sym absent) tt

pub get_gone : (m : Slots) (j : ℕ) → finite.get (finite.remove m j) j ≡ None
get_gone m j = finite.get-remove nat_cmp_total m j j ∙ ap (λ b. cond b None (finite.get m j)) ((eq_by_cmp_equiv nat_cmp_total).refl j)

pub reply_rests : (m : Slots) (j : ℕ) (r : Reply) → IsTicketless (finite.get (moved_by m j r) j)
reply_rests m j replies.Done = none_ticketless _ (get_gone m j)
reply_rests m j (replies.Number n) = none_ticketless _ (get_gone m j)
reply_rests m j (replies.Size n) = none_ticketless _ (get_gone m j)
reply_rests m j (replies.Phase p) = by_phase (is_processing p && nat_lt (slot_in m j).stage 16)
  where
    by_phase : (b : Bool) → IsTicketless (finite.get (cond b (advanced_in m j) (finite.remove m j)) j)
    by_phase true = ticketless _ (advanced (slot_in m j)) (advanced (slot_in m j)).progress (get_own m j (advanced (slot_in m j))) refl refl
    by_phase false = none_ticketless _ (get_gone m j)

moved_rests : (m : Slots) (j : ℕ) (a : Answer) → IsTicketless (finite.get m j) → IsTicketless (finite.get (moved m j a) j)
moved_rests m j (Ok r) rests = reply_rests m j r
moved_rests m j (Err fault) rests = rests

module _ {D : Type 0} (device : DiskView D) where
  report_rests : (old : RunState D) (j : ℕ) (r : Report) (new : RunState D) → IsReport device old j r new → IsTicketless (finite.get old.slots j) → IsTicketless (finite.get new.slots j)
  report_rests old j reports.Silent new none rests = absurd none
  report_rests old j reports.NoMemory new same rests = subst (λ (c : RunState D). IsTicketless (finite.get c.slots j)) (sym same) rests
  report_rests old j (reports.Answered a) new report rests = subst (λ m. IsTicketless (finite.get m j)) (sym report.1) (moved_rests old.slots j a rests)

  -- After the end of a stage its slot has no running child, and all others are unchanged.
  pub end_rests : (old : RunState D) (e : Ending D) → IsEnding device old e → SameBut e.job old.slots e.next.slots × IsTicketless (finite.get e.next.slots e.job)
  end_rests old e ends = by_slot (finite.get old.slots e.job) refl
    where
      silent : e.next ≡ old → IsTicketless (finite.get old.slots e.job) → SameBut e.job old.slots e.next.slots × IsTicketless (finite.get e.next.slots e.job)
      silent same rests = (λ k other. ap (λ (c : RunState D). finite.get c.slots k) same, subst (λ (c : RunState D). IsTicketless (finite.get c.slots e.job)) (sym same) rests)

      spoken : SameBut e.job old.slots e.kept.slots → IsTicketless (finite.get e.kept.slots e.job) → IsReport device e.kept e.job e.report e.next → SameBut e.job old.slots e.next.slots × IsTicketless (finite.get e.next.slots e.job)
      spoken same rests report = (λ k other. (report_same device e.kept e.job e.report e.next report).1 k other ∙ same k other, report_rests e.kept e.job e.report e.next report rests)

      by_progress : (slot : Slot ℕ) (p : Progress ℕ) → finite.get old.slots e.job ≡ Some slot → slot.progress ≡ p → IsEndingOf device old (is_ready p) e → SameBut e.job old.slots e.next.slots × IsTicketless (finite.get e.next.slots e.job)
      by_progress slot (Ready input) there is ending = silent ending.2 (ticketless _ slot (Ready input) there is refl)
      by_progress slot (Running n) there is ending =
          let at : (slot_in old.slots e.job).progress ≡ Running n = ap (λ o. (unwrap_or o (begun 0 0)).progress) there ∙ is in
          let fin : Waits old.told n old.slots e.job e.kept.slots e.kept.told = subst (λ p. FinishesFrom p old.told old.slots e.job e.kept.slots e.kept.told) at ending.0 in
          let put : Slot ℕ = with_progress (slot_in old.slots e.job) (Ended fin.finish) in
          spoken (λ k other. ap (λ m. finite.get m k) fin.slots ∙ get_other old.slots e.job k put other)
          (ticketless _ put (Ended fin.finish) (ap (λ m. finite.get m e.job) fin.slots ∙ get_own old.slots e.job put) refl refl) ending.2
      by_progress slot (Ended finish) there is ending =
          let at : (slot_in old.slots e.job).progress ≡ Ended finish = ap (λ o. (unwrap_or o (begun 0 0)).progress) there ∙ is in
          let fin : (e.kept.slots ≡ old.slots) × (e.kept.told ≡ old.told) = subst (λ p. FinishesFrom p old.told old.slots e.job e.kept.slots e.kept.told) at ending.0 in
          spoken (λ k other. ap (λ m. finite.get m k) fin.0) (ticketless _ slot (Ended finish) (ap (λ m. finite.get m e.job) fin.0 ∙ there) is refl) ending.2

      by_slot : (o : Option (Slot ℕ)) → finite.get old.slots e.job ≡ o → SameBut e.job old.slots e.next.slots × IsTicketless (finite.get e.next.slots e.job)
      by_slot None there = silent (subst (λ o. IsEndingOf device old (is_silent o) e) there ends).2 (none_ticketless _ there)
      by_slot (Some slot) there = by_progress slot slot.progress there refl (subst (λ o. IsEndingOf device old (is_silent o) e) there ends)

  in_or_out : (b c : Bool) → b ≡ false → (b || c) ≡ c
  in_or_out true c e = absurd (cc)
  in_or_out false c e = refl

  -- After the ends the children of these jobs do not run, and those of other jobs still run.
  pub ends_rest : (old : RunState D) (es : List (Ending D)) (new : RunState D) → AreEndings device old es new → (k : ℕ) → (is_in k (map (λ e. e.job) es) ≡ false → IsTicketless (finite.get old.slots k)) → IsTicketless (finite.get new.slots k)
  ends_rest old [] new same k rests = subst (λ (c : RunState D). IsTicketless (finite.get c.slots k)) (sym same) (rests refl)
  ends_rest old (e ∷ es) new ends k rests = ends_rest e.next es new ends.1 k (λ out. by_job (e.job == k) refl out)
    where
      one : SameBut e.job old.slots e.next.slots × IsTicketless (finite.get e.next.slots e.job)
      one = end_rests old e ends.0

      by_job : (b : Bool) → (e.job == k) ≡ b → is_in k (map (λ e. e.job) es) ≡ false → IsTicketless (finite.get e.next.slots k)
      by_job true is out = subst (λ i. IsTicketless (finite.get e.next.slots i)) (eqb-true e.job k is) one.1
      by_job false is out = subst IsTicketless (sym (one.0 k (turned e.job k is))) (rests (in_or_out (e.job == k) (is_in k (map (λ e. e.job) es)) is ∙ out))
