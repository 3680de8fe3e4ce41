-- The output of a child stays with its stage's slot until it is passed to the next stage.
use Rattle.std.proofs.Common.{◌≡◌, inl, inr, ℕ, suc, ◌+◌, Bool, true, false, cond, ◌&&◌, ◌==◌, nat_lt, List, [], ◌∷◌, ◌++◌, length, map, Option, Some, None, unwrap_or, Result, Ok, Err, refl, sym, ap, subst, ◌∙◌, append_assoc, append-nil, arith, add-one}
use Rattle.std.specs.FinMap as finite
use Rattle.std.specs.Cmp.{first_so}
use Rattle.std.proofs.lemmas.Bool.{eqb-true, ltb-false}
use Rattle.std.proofs.lemmas.List.{map-append}
use Rattle.spool_disk.specs.Disk.{DiskView}
use Rattle.spool_types.specs.declared.effect.Exit.TheVariants.{Code, Lost}
use Rattle.spool_types.specs.declared.event.Event.TheVariants.{Stage}
use Rattle.spool_types.specs.declared.event.Reply.{Reply}
use Rattle.spool_types.specs.declared.event.Reply.TheVariants as replies
use Rattle.spool_types.specs.declared.phase.Phase.{Phase}
use Rattle.spool_types.specs.declared.phase.Phase.TheVariants.{Incoming, Waiting, Processing, Completed, Canceled, Aborted}
use Rattle.spool_types.specs.declared.rows.QueueRow.{QueueRow}
use Rattle.spool_types.specs.Limits.{longest_document}
use Rattle.spool_types.specs.Phases.{is_processing}
use Rattle.spool_types.specs.State.{State, Job}
use Rattle.job_table.specs.DocumentLengths.{document_len}
use Rattle.job_table.specs.EventFold.{after_all}
use Rattle.job_table.specs.Legal.{IsLegal}
use Rattle.job_table.specs.Stages.{Key}
use Rattle.job_table.specs.Step.{refusal_of}
use Rattle.spool_core.specs.OpenSpools.{OpenSpool}
use Rattle.filter_args.specs.declared.place.Place.{Place}
use Rattle.child_pipeline.specs.Finishes.{kept}
use Rattle.child_pipeline.specs.Orders.{order_of}
use Rattle.child_pipeline.specs.StageSlots.{Slots, slot_in, begun, begun_in, with_progress, put_progress, progress_after, IsStart, IsTicketless, IsDue, order_in, input_in, end_in, finish_in, advanced, advanced_in, is_ready, FinishesFrom, Waits, IsFinish}
use Rattle.child_pipeline.specs.ChildTraces.{ChildTrace, is_in, starts_first, started_by, first_finish, rest_of, after_finish, without}
use Rattle.child_pipeline.specs.declared.order.ChildFault.{ChildFault}
use Rattle.child_pipeline.specs.declared.order.Finish.{Finish}
use Rattle.child_pipeline.specs.declared.order.Input.TheVariants.{Document}
use Rattle.child_pipeline.specs.declared.order.Order.{Order}
use Rattle.child_pipeline.specs.declared.order.Placed.{Placed}
use Rattle.child_pipeline.specs.declared.runner.Progress.{Progress}
use Rattle.child_pipeline.specs.declared.runner.Progress.TheVariants.{Ready, Running, Ended}
use Rattle.child_pipeline.specs.declared.runner.Slot.{Slot}
use Rattle.print_rounds.specs.Choice.{slots_for, slots_in, slots_by, readiness}
use Rattle.print_rounds.specs.RunStates.{RunState, Launching, IsInput, IsLaunch, AreLaunchings, AreHanded, given, Ending, IsReport, IsEndingOf, AreEndings, is_silent, moved_by}
use Rattle.print_rounds.specs.Finished.{AreDistinct, AllRest, with_number, with_slot, running_in}
use Rattle.print_rounds.specs.Inputs.{AnsweredOrder, answered, IsOneOf, stage_of, HasGiven, IsRight, AreRight, HaveDocuments, IsKeptFrom, AreKeptFrom}
use Rattle.print_rounds.specs.declared.outcome.Launch.{Launch}
use Rattle.print_rounds.specs.declared.outcome.Launch.TheVariants.{Unlaunched, Launched, NoMemory, Disk, Dead}
use Rattle.print_rounds.specs.declared.outcome.Report.{Report}
use Rattle.print_rounds.specs.declared.outcome.Report.TheVariants as reports
use Rattle.print_rounds.proofs.CurrentLaws.{due_of}
use Rattle.print_rounds.proofs.EndLaws.{get_own, get_other, get_left, get_gone, in_head, not_first, not_second, report_same, running_same, without_head, SameBut, end_rests}
use Rattle.print_rounds.proofs.LaunchLaws.{HasNumbers, due_own, launches_same, rest_same, some_of}
use Rattle.print_rounds.proofs.PartLaws.{end_part}
use Rattle.print_rounds.proofs.PassLaws.{goes_on_zero}
use Rattle.print_rounds.proofs.ReportLaws.{done_state}
use Rattle.print_rounds.specs.Counts.{report_events}

-- ## More orders

more_of : (xs ys : List AnsweredOrder) (x : AnsweredOrder) → IsOneOf xs x → IsOneOf (xs ++ ys) x
more_of [] ys x among = absurd among
more_of (y ∷ xs) ys x among = elim among [
  | inl same ↦ inl same
  | inr later ↦ inr (more_of xs ys x later)
]

pub last_of : (xs : List AnsweredOrder) (x : AnsweredOrder) → IsOneOf (xs ++ x ∷ []) x
last_of [] x = inl refl
last_of (y ∷ xs) x = inr (last_of xs x)

given_more : (xs ys : List AnsweredOrder) (k : Key) (output : List ℕ) → HasGiven xs k output → HasGiven (xs ++ ys) k output
given_more xs ys k output has = record { from = has.from; among = more_of xs ys has.from has.among; key = has.key; finish = has.finish; ended = has.ended; exit = has.exit; short = has.short; whole = has.whole }

pub kept_more : (xs ys : List AnsweredOrder) (j : ℕ) (slot : Slot ℕ) (p : Progress ℕ) → IsKeptFrom xs j slot p → IsKeptFrom (xs ++ ys) j slot p
kept_more xs ys j slot (Ready None) first = first
kept_more xs ys j slot (Ready (Some output)) (n, stage, has) = (n, stage, given_more xs ys _ output has)
kept_more xs ys j slot (Running number) is = is
kept_more xs ys j slot (Ended finish) (n, stage, has) = (n, stage, λ zero. given_more xs ys _ finish.output (has zero))

pub right_both : (earlier xs ys : List AnsweredOrder) → AreRight earlier xs → AreRight (earlier ++ xs) ys → AreRight earlier (xs ++ ys)
right_both earlier [] ys first second = subst (λ l. AreRight l ys) (append-nil earlier) second
right_both earlier (x ∷ xs) ys first second = (first.0, right_both (earlier ++ x ∷ []) xs ys first.1 (subst (λ l. AreRight l ys) (sym (append_assoc earlier (x ∷ []) xs)) second))

pub documents_both : (documents : ℕ → List ℕ) (ps qs : List Placed) → HaveDocuments documents ps → HaveDocuments documents qs → HaveDocuments documents (ps ++ qs)
documents_both documents [] qs first second = second
documents_both documents (p ∷ ps) qs first second = (first.0, documents_both documents ps qs first.1 second)

-- ## Slots

module _ (xs : List AnsweredOrder) where
  pub kept_but : (j : ℕ) (old new : Slots) → SameBut j old new → AreKeptFrom xs old → ((slot : Slot ℕ) → finite.get new j ≡ Some slot → IsKeptFrom xs j slot slot.progress) → AreKeptFrom xs new
  kept_but j old new same kept own k slot there = by_job (k == j) refl
    where
      by_job : (b : Bool) → (k == j) ≡ b → IsKeptFrom xs k slot slot.progress
      by_job true is =
          let at : k ≡ j = eqb-true k j is in
          subst (λ i. IsKeptFrom xs i slot slot.progress) (sym at) (own slot (ap (finite.get new) (sym at) ∙ there))
      by_job false is = kept k slot (sym (same k is) ∙ there)

  pub own_kept : (j : ℕ) (new : Slots) (put : Slot ℕ) → finite.get new j ≡ Some put → IsKeptFrom xs j put put.progress → (slot : Slot ℕ) → finite.get new j ≡ Some slot → IsKeptFrom xs j slot slot.progress
  own_kept j new put there is slot at = subst (λ (x : Slot ℕ). IsKeptFrom xs j x x.progress) (some_of put slot (sym there ∙ at)) is

  begun_kept : (slots : Slots) (j attempt stage : ℕ) → stage ≡ 1 → AreKeptFrom xs slots → AreKeptFrom xs (finite.insert slots j (begun attempt stage))
  begun_kept slots j attempt stage first kept =
      kept_but j slots (finite.insert slots j (begun attempt stage)) (λ k other. get_other slots j k (begun attempt stage) other) kept
      (own_kept j (finite.insert slots j (begun attempt stage)) (begun attempt stage) (get_own slots j (begun attempt stage)) first)

  pub gone_kept : (slots : Slots) (j : ℕ) → AreKeptFrom xs slots → AreKeptFrom xs (finite.remove slots j)
  gone_kept slots j kept = kept_but j slots (finite.remove slots j) (λ k other. get_left slots j k other) kept (λ slot there. absurd (never (finite.get (finite.remove slots j) j) slot (get_gone slots j) there))
    where
      never : (o : Option (Slot ℕ)) (slot : Slot ℕ) → o ≡ None → o ≡ Some slot → ⊥
      never o slot none some = cc

  -- With a slot for a stage that must be started.
  pub own_slots : (slots : Slots) (r : Job) (own : Slots) → slots_for slots r ≡ Some own → AreKeptFrom xs slots → AreKeptFrom xs own
  own_slots slots r own due kept = by_phase r.phase refl due
    where
      by_first : (attempt stage stages : ℕ) → r.phase ≡ Processing attempt stage stages → (b : Bool) → (stage == 1) ≡ b → cond b (Some (begun_in slots r.id r.phase)) None ≡ Some own → AreKeptFrom xs own
      by_first attempt stage stages is true first e = subst (AreKeptFrom xs) (ap (begun_in slots r.id) (sym is) ∙ some_of _ _ e) (begun_kept slots r.id attempt stage (eqb-true stage 1 first) kept)
      by_first attempt stage stages is false first e = absurd (cc)

      by_slot : (attempt stage stages : ℕ) → r.phase ≡ Processing attempt stage stages → (o : Option Bool) → slots_by slots r stage o ≡ Some own → AreKeptFrom xs own
      by_slot attempt stage stages is None e = by_first attempt stage stages is (stage == 1) refl e
      by_slot attempt stage stages is (Some true) e = subst (AreKeptFrom xs) (some_of _ _ e) kept
      by_slot attempt stage stages is (Some false) e = absurd (cc)

      by_phase : (p : Phase) → r.phase ≡ p → slots_in slots r p ≡ Some own → AreKeptFrom xs own
      by_phase (Processing attempt stage stages) is e = by_slot attempt stage stages is (readiness attempt stage (finite.get slots r.id)) e
      by_phase (Incoming hold) is e = absurd (cc)
      by_phase (Waiting hold not_before first) is e = absurd (cc)
      by_phase Completed is e = absurd (cc)
      by_phase Canceled is e = absurd (cc)
      by_phase (Aborted reason) is e = absurd (cc)

-- A stage that is due has a slot and was not started.
pub at_due : (o : Option (Slot ℕ)) (p : Phase) → IsDue o p → (slot : Slot ℕ) × (o ≡ Some slot) × (is_ready slot.progress ≡ true)
at_due None p due = absurd due
at_due (Some slot) p due = (slot, refl, due.0)

-- ## The finishes to come

-- One of these orders is for that stage, and this is the finish of its child.
pub record HasRun (xs : List AnsweredOrder) (k : Key) (end : Option Finish) : Type 0 where
  pub from : AnsweredOrder
  pub among : IsOneOf xs from
  pub key : stage_of from.order ≡ k
  pub ends : from.finish ≡ end

abbrev pub Finishes : Type 0
Finishes = List (Result Finish ChildFault)

abbrev pub IsDueBy : List AnsweredOrder → ℕ → Slot ℕ → Progress ℕ → Finishes → Type 0
IsDueBy xs j slot (Ready input) fs = Unit {0}
IsDueBy xs j slot (Running n) fs = HasRun xs (record { job = j; attempt = slot.attempt; stage = slot.stage }) (first_finish fs)
IsDueBy xs j slot (Ended finish) fs = Unit {0}

abbrev pub IsDueAt : List AnsweredOrder → ℕ → Option (Slot ℕ) → Finishes → Type 0
IsDueAt xs j None fs = Unit {0}
IsDueAt xs j (Some slot) fs = IsDueBy xs j slot slot.progress fs

abbrev pub left_by : Progress ℕ → Finishes → Finishes
left_by (Ready input) fs = fs
left_by (Running n) fs = rest_of fs
left_by (Ended finish) fs = fs

abbrev pub left_at : Option (Slot ℕ) → Finishes → Finishes
left_at None fs = fs
left_at (Some slot) fs = left_by slot.progress fs

-- The finishes to come are those of the running children of these jobs, in order, followed by `left`.
abbrev pub AreDue : List AnsweredOrder → Slots → List ℕ → Finishes → Finishes → Type 0
AreDue xs slots [] fs left = fs ≡ left
AreDue xs slots (j ∷ js) fs left = IsDueAt xs j (finite.get slots j) fs × AreDue xs slots js (left_at (finite.get slots j) fs) left

run_more : (xs ys : List AnsweredOrder) (k : Key) (end : Option Finish) → HasRun xs k end → HasRun (xs ++ ys) k end
run_more xs ys k end has = record { from = has.from; among = more_of xs ys has.from has.among; key = has.key; ends = has.ends }

due_more : (xs ys : List AnsweredOrder) (j : ℕ) (o : Option (Slot ℕ)) (fs : Finishes) → IsDueAt xs j o fs → IsDueAt (xs ++ ys) j o fs
due_more xs ys j None fs due = tt
due_more xs ys j (Some slot) fs due = by_progress slot.progress due
  where
    by_progress : (p : Progress ℕ) → IsDueBy xs j slot p fs → IsDueBy (xs ++ ys) j slot p fs
    by_progress (Ready input) is = tt
    by_progress (Running n) is = run_more xs ys _ (first_finish fs) is
    by_progress (Ended finish) is = tt

due_same : (xs : List AnsweredOrder) (j : ℕ) (m n : Slots) → SameBut j m n → (js : List ℕ) → is_in j js ≡ false → (fs left : Finishes) → AreDue xs m js fs left → AreDue xs n js fs left
due_same xs j m n same [] out fs left due = due
due_same xs j m n same (k ∷ js) out fs left due =
    let here : finite.get n k ≡ finite.get m k = same k (not_first (k == j) (is_in j js) out) in (
      subst (λ o. IsDueAt xs k o fs) (sym here) due.0,
      due_same xs j m n same js (not_second (k == j) (is_in j js) out) (left_at (finite.get n k) fs) left (subst (λ o. AreDue xs m js (left_at o fs) left) (sym here) due.1),
    )

-- Without a running child no finish is taken.
none_due : (xs : List AnsweredOrder) (j : ℕ) (o : Option (Slot ℕ)) (fs : Finishes) → IsTicketless o → IsDueAt xs j o fs × (left_at o fs ≡ fs)
none_due xs j None fs rests = (tt, refl)
none_due xs j (Some slot) fs rests = by_progress slot.progress refl
  where
    by_progress : (p : Progress ℕ) → slot.progress ≡ p → IsDueBy xs j slot p fs × (left_by p fs ≡ fs)
    by_progress (Ready input) is = (tt, refl)
    by_progress (Running n) is = absurd (rests n is)
    by_progress (Ended finish) is = (tt, refl)

pub ready_rests : (o : Option (Slot ℕ)) (slot : Slot ℕ) → o ≡ Some slot → is_ready slot.progress ≡ true → IsTicketless o
ready_rests o slot there ready = subst IsTicketless (sym there) (λ n runs. let not : is_ready (Running n) ≡ true = ap is_ready (sym runs) ∙ ready in absurd (cc))

-- A stored finish that ended with 0 is the output of the child.
pub run_given : (xs : List AnsweredOrder) (k : Key) (end : Option Finish) → HasRun xs k end → (f : Finish) → f ≡ kept end → f.exit ≡ Code 0 → HasGiven xs k f.output
run_given xs k None has f is zero = let other : Lost ≡ Code 0 = sym (ap (λ (x : Finish). x.exit) is) ∙ zero in absurd (cc)
run_given xs k (Some g) has f is zero = by_length (nat_lt longest_document (length g.output)) refl
  where
    lost_of : Finish
    lost_of = record { exit = Lost; output = []; errors = g.errors }

    by_length : (b : Bool) → nat_lt longest_document (length g.output) ≡ b → HasGiven xs k f.output
    by_length true long =
        let same : f ≡ lost_of = is ∙ ap (λ b. cond b lost_of g) long in
        let other : Lost ≡ Code 0 = sym (ap (λ (x : Finish). x.exit) same) ∙ zero in
        absurd (cc)
    by_length false short =
        let same : f ≡ g = is ∙ ap (λ b. cond b lost_of g) short in
        record {
          from = has.from;
          among = has.among;
          key = has.key;
          finish = g;
          ended = has.ends;
          exit = sym (ap (λ (x : Finish). x.exit) same) ∙ zero;
          short = ltb-false longest_document (length g.output) short;
          whole = sym (ap (λ (x : Finish). x.output) same);
        }

-- ## The start of a stage

-- The order of the stage is right.
right_order : (place : Place) (r : Job) (q : QueueRow) (xs : List AnsweredOrder) (slot : Slot ℕ) (content : List ℕ) (p : Progress ℕ) → IsKeptFrom xs r.id slot p → is_ready p ≡ true → IsRight xs (order_of place r q slot.attempt slot.stage (input_in p content))
right_order place r q xs slot content (Ready None) first ready = record { first = λ is. (content, refl); later = λ not. absurd (not first) }
right_order place r q xs slot content (Ready (Some output)) (n, stage, has) ready = record {
  first = λ is. absurd (omega (arith, is, stage));
  later = λ not. record { stage = suc n; next = stage; output = output; given = has; input = refl };
}
right_order place r q xs slot content (Running n) is ready = absurd (cc)
right_order place r q xs slot content (Ended finish) is ready = absurd (cc)

stage_begins : (xs : List AnsweredOrder) (j : ℕ) (slot : Slot ℕ) (p : Progress ℕ) → IsKeptFrom xs j slot p → is_ready p ≡ true → (n : ℕ) × (slot.stage ≡ suc n)
stage_begins xs j slot (Ready None) first ready = (0, first)
stage_begins xs j slot (Ready (Some output)) (n, stage, has) ready = (suc n, stage)
stage_begins xs j slot (Running n) is ready = absurd (cc)
stage_begins xs j slot (Ended finish) is ready = absurd (cc)

-- In a first stage it has the document that was read.
own_document : (xs : List AnsweredOrder) (j : ℕ) (slot : Slot ℕ) (p : Progress ℕ) (len : ℕ) (d : Option (List ℕ)) (wanted : List ℕ) → IsKeptFrom xs j slot p → IsInput p len d → ((read : List ℕ) → d ≡ Some read → read ≡ wanted) → slot.stage ≡ 1 → input_in p (given d) ≡ Document wanted
own_document xs j slot (Ready None) len None wanted is input read first = absurd input
own_document xs j slot (Ready None) len (Some document) wanted is input read first = ap Document (read document refl)
own_document xs j slot (Ready (Some output)) len d wanted (n, stage, has) input read first = absurd (omega (arith, first, stage))
own_document xs j slot (Running n) len d wanted is input read first = absurd input
own_document xs j slot (Ended finish) len d wanted is input read first = absurd input

-- The effect of the start of a stage, given the finishes to come for it and for later ones.
pub record IsOneOn (earlier : List AnsweredOrder) (t : ChildTrace) (fs : Finishes) (old : Slots) (j : ℕ) (d : Option (List ℕ)) (new : Slots) (told : Option ChildTrace) : Type 0 where
  pub now : ChildTrace
  pub tells : told ≡ Some now
  pub orders : List Placed
  pub added : now.orders ≡ t.orders ++ orders
  pub finishes : now.finishes ≡ t.finishes
  pub each : List AnsweredOrder
  pub all : map (λ x. x.order) each ≡ map (λ p. p.order) orders
  pub left : Finishes
  pub answers : (more : List Placed) → answered t.starts fs (orders ++ more) ≡ each ++ answered now.starts left more
  pub right : AreRight earlier each
  pub documents : (documents : ℕ → List ℕ) → ((read : List ℕ) → d ≡ Some read → read ≡ documents j) → HaveDocuments documents orders
  pub kept : AreKeptFrom (earlier ++ each) new
  pub due : IsDueAt (earlier ++ each) j (finite.get new j) fs
  pub rest : left_at (finite.get new j) fs ≡ left
  pub same : SameBut j old new

-- No order was given.
none_on : (earlier : List AnsweredOrder) (t : ChildTrace) (fs : Finishes) (old : Slots) (j : ℕ) (d : Option (List ℕ)) (new : Slots) (told : Option ChildTrace) → told ≡ Some t → AreKeptFrom earlier new → IsTicketless (finite.get new j) → SameBut j old new → IsOneOn earlier t fs old j d new told
none_on earlier t fs old j d new told tells kept rests same = record {
  now = t;
  tells = tells;
  orders = [];
  added = sym (append-nil t.orders);
  finishes = refl;
  each = [];
  all = refl;
  left = fs;
  answers = λ more. refl;
  right = tt;
  documents = λ documents read. tt;
  kept = subst (λ xs. AreKeptFrom xs new) (sym (append-nil earlier)) kept;
  due = (none_due (earlier ++ []) j (finite.get new j) fs rests).0;
  rest = (none_due (earlier ++ []) j (finite.get new j) fs rests).1;
  same = same;
}

module _ (earlier : List AnsweredOrder) (place : Place) (t : ChildTrace) (fs : Finishes) (old own : Slots) (r : Job) (q : QueueRow) (d : Option (List ℕ)) (due : slots_for old r ≡ Some own) (input : IsInput (slot_in own r.id).progress (document_len r) d) (old_kept : AreKeptFrom earlier old) (b : Bool) (n : ℕ) (new : Slots) (put : new ≡ put_progress own r.id (progress_after b n)) where
  abbrev own_slot : Slot ℕ
  own_slot = slot_in own r.id

  abbrev order : Order
  order = order_in place own r q (given d)

  is_slot : (x : Slot ℕ) × (finite.get own r.id ≡ Some x) × (is_ready x.progress ≡ true)
  is_slot = at_due (finite.get own r.id) r.phase (due_of old r own due)

  same_slot : is_slot.0 ≡ own_slot
  same_slot = sym (ap (λ o. unwrap_or o (begun 0 0)) is_slot.1)

  ready : is_ready own_slot.progress ≡ true
  ready = subst (λ (x : Slot ℕ). is_ready x.progress ≡ true) same_slot is_slot.2

  slot_kept : IsKeptFrom earlier r.id own_slot own_slot.progress
  slot_kept = subst (λ (x : Slot ℕ). IsKeptFrom earlier r.id x x.progress) same_slot (own_slots earlier old r own due old_kept r.id is_slot.0 is_slot.1)

  pub others : SameBut r.id old new
  others k other = ap (λ m. finite.get m k) put ∙ get_other own r.id k (with_progress own_slot (progress_after b n)) other ∙ (due_own old r own due).same k other

  pub here : (c : Bool) → b ≡ c → finite.get new r.id ≡ Some (with_progress own_slot (progress_after c n))
  here c is = ap (λ m. finite.get m r.id) put ∙ get_own own r.id (with_progress own_slot (progress_after b n)) ∙ ap (λ v. Some (with_progress own_slot (progress_after v n))) is

  put_kept : (xs : List AnsweredOrder) (c : Bool) → IsKeptFrom xs r.id (with_progress own_slot (progress_after c n)) (progress_after c n)
  put_kept xs true = stage_begins earlier r.id own_slot own_slot.progress slot_kept ready
  put_kept xs false = let (m, stage) = stage_begins earlier r.id own_slot own_slot.progress slot_kept ready in (m, stage, λ zero. absurd (cc))

  pub new_kept : (ys : List AnsweredOrder) (c : Bool) → b ≡ c → AreKeptFrom (earlier ++ ys) new
  new_kept ys c is =
      kept_but (earlier ++ ys) r.id old new others (λ j x there. kept_more earlier ys j x x.progress (old_kept j x there))
      (own_kept (earlier ++ ys) r.id new (with_progress own_slot (progress_after c n)) (here c is) (put_kept (earlier ++ ys) c))

  pub unstarted_rests : b ≡ false → IsTicketless (finite.get new r.id)
  unstarted_rests is = subst IsTicketless (sym (here false is)) (λ m runs. absurd (cc))

  pub own_documents : (before : ℕ) (documents : ℕ → List ℕ) → ((read : List ℕ) → d ≡ Some read → read ≡ documents r.id) → HaveDocuments documents (record { order = order; before = before } ∷ [])
  own_documents before documents read = (own_document earlier r.id own_slot own_slot.progress (document_len r) d (documents r.id) slot_kept input read, tt)

  pub right : IsRight earlier order
  right = right_order place r q earlier own_slot (given d) own_slot.progress slot_kept ready

  -- By the answers to come.
  launched_on : (told : Option ChildTrace) (starts : List (Result (Unit {0}) ChildFault)) → t.starts ≡ starts → b ≡ starts_first starts → told ≡ Some (started_by t order starts) → IsOneOn earlier t fs old r.id d new told
  launched_on told [] e is tells = none_on earlier t fs old r.id d new told tells (subst (λ xs. AreKeptFrom xs new) (append-nil earlier) (new_kept [] false is)) (unstarted_rests is) others
  launched_on told (Ok done ∷ rest) e is tells =
      let x : AnsweredOrder = record { order = order; finish = first_finish fs } in
      record {
        now = started_by t order (Ok done ∷ rest);
        tells = tells;
        orders = record { order = order; before = t.finished } ∷ [];
        added = refl;
        finishes = refl;
        each = x ∷ [];
        all = refl;
        left = rest_of fs;
        answers = λ more. ap (λ s. answered s fs (record { order = order; before = t.finished } ∷ more)) e;
        right = (right, tt);
        documents = own_documents t.finished;
        kept = new_kept (x ∷ []) true is;
        due = subst (λ o. IsDueAt (earlier ++ x ∷ []) r.id o fs) (sym (here true is)) (record { from = x; among = last_of earlier x; key = refl; ends = refl });
        rest = ap (λ o. left_at o fs) (here true is);
        same = others;
      }
  launched_on told (Err fault ∷ rest) e is tells =
      let x : AnsweredOrder = record { order = order; finish = None } in
      record {
        now = started_by t order (Err fault ∷ rest);
        tells = tells;
        orders = record { order = order; before = t.finished } ∷ [];
        added = refl;
        finishes = refl;
        each = x ∷ [];
        all = refl;
        left = fs;
        answers = λ more. ap (λ s. answered s fs (record { order = order; before = t.finished } ∷ more)) e;
        right = (right, tt);
        documents = own_documents t.finished;
        kept = new_kept (x ∷ []) false is;
        due = (none_due (earlier ++ x ∷ []) r.id (finite.get new r.id) fs (unstarted_rests is)).0;
        rest = (none_due (earlier ++ x ∷ []) r.id (finite.get new r.id) fs (unstarted_rests is)).1;
        same = others;
      }

module _ (place : Place) (s : State) (numbers : HasNumbers s) where
  own_on : (earlier : List AnsweredOrder) (t : ChildTrace) (fs : Finishes) (old : Slots) (j : ℕ) (d : Option (List ℕ)) (r : Job) (own new : Slots) (told : Option ChildTrace) → r.id ≡ j → slots_for old r ≡ Some own → told ≡ Some t → AreKeptFrom earlier old → new ≡ own → IsOneOn earlier t fs old j d new told
  own_on earlier t fs old j d r own new told id due tells kept same =
      let (slot, there, ready) = at_due (finite.get own r.id) r.phase (due_of old r own due) in
      subst (λ i. IsOneOn earlier t fs old i d new told) id
      (none_on earlier t fs old r.id d new told tells (subst (AreKeptFrom earlier) (sym same) (own_slots earlier old r own due kept))
      (subst (λ m. IsTicketless (finite.get m r.id)) (sym same) (ready_rests (finite.get own r.id) slot there ready))
      (λ k other. ap (λ m. finite.get m k) same ∙ (due_own old r own due).same k other))

  same_on : (earlier : List AnsweredOrder) (t : ChildTrace) (fs : Finishes) (old : Slots) (j : ℕ) (d : Option (List ℕ)) (new : Slots) (told : Option ChildTrace) → told ≡ Some t → AreKeptFrom earlier old → IsTicketless (finite.get old j) → new ≡ old → IsOneOn earlier t fs old j d new told
  same_on earlier t fs old j d new told tells kept rests same =
      none_on earlier t fs old j d new told tells (subst (AreKeptFrom earlier) (sym same) kept) (subst (λ m. IsTicketless (finite.get m j)) (sym same) rests) (λ k other. ap (λ m. finite.get m k) same)

  one_on : (earlier : List AnsweredOrder) (t : ChildTrace) (fs : Finishes) (old : Slots) (told : Option ChildTrace) (j : ℕ) (d : Option (List ℕ)) (l : Launch) (new : Slots) (told' : Option ChildTrace) → IsLaunch place s old told j d l new told' → told ≡ Some t → AreKeptFrom earlier old → IsTicketless (finite.get old j) → IsOneOn earlier t fs old j d new told'
  one_on earlier t fs old told j d Unlaunched new told' (rest, none, same, tells') tells kept rests = same_on earlier t fs old j d new told' (tells' ∙ tells) kept rests same
  one_on earlier t fs old told j d (Launched b) new told' (r, q, own, due, input, starts) tells kept rests =
      let order : Order = order_in place own r q (given d) in
      let start : IsStart (Some t) order b starts.number told' = subst (λ o. IsStart o order b starts.number told') tells starts.start in
      subst (λ i. IsOneOn earlier t fs old i d new told') (numbers j r due.row)
      (launched_on earlier place t fs old own r q d due.due input kept b starts.number new starts.slots told' t.starts refl start.answer start.told)
  one_on earlier t fs old told j d NoMemory new told' (r, q, own, due, either, tells') tells kept rests = elim either [
    | inl same ↦ same_on earlier t fs old j d new told' (tells' ∙ tells) kept rests same
    | inr same ↦ own_on earlier t fs old j d r own new told' (numbers j r due.row) due.due (tells' ∙ tells) kept same
  ]
  one_on earlier t fs old told j d Disk new told' (r, q, own, due, none, same, tells') tells kept rests = own_on earlier t fs old j d r own new told' (numbers j r due.row) due.due (tells' ∙ tells) kept same
  one_on earlier t fs old told j d Dead new told' (none, same, tells') tells kept rests = same_on earlier t fs old j d new told' (tells' ∙ tells) kept rests same

  -- The effect of all the starts.
  pub record AreOn (earlier : List AnsweredOrder) (t : ChildTrace) (fs : Finishes) (ts : List Launching) (new : Slots) (told : Option ChildTrace) : Type 0 where
    pub now : ChildTrace
    pub tells : told ≡ Some now
    pub orders : List Placed
    pub added : now.orders ≡ t.orders ++ orders
    pub finishes : now.finishes ≡ t.finishes
    pub each : List AnsweredOrder
    pub all : map (λ x. x.order) each ≡ map (λ p. p.order) orders
    pub left : Finishes
    pub answers : (more : List Placed) → answered t.starts fs (orders ++ more) ≡ each ++ answered now.starts left more
    pub right : AreRight earlier each
    pub documents : (documents : ℕ → List ℕ) → AreHanded documents ts → HaveDocuments documents orders
    pub kept : AreKeptFrom (earlier ++ each) new
    pub due : AreDue (earlier ++ each) new (map (λ l. l.job) ts) fs left

  due_grown : (xs ys : List AnsweredOrder) (slots : Slots) (js : List ℕ) (fs left : Finishes) → AreDue xs slots js fs left → AreDue (xs ++ ys) slots js fs left
  due_grown xs ys slots [] fs left due = due
  due_grown xs ys slots (j ∷ js) fs left due = (due_more xs ys j (finite.get slots j) fs due.0, due_grown xs ys slots js (left_at (finite.get slots j) fs) left due.1)

  pub all_on : (earlier : List AnsweredOrder) (t : ChildTrace) (fs : Finishes) (old : Slots) (told : Option ChildTrace) (ts : List Launching) (new : Slots) (told' : Option ChildTrace) → AreLaunchings place s old told ts new told' → told ≡ Some t → AreKeptFrom earlier old → AllRest old (map (λ l. l.job) ts) → AreDistinct (map (λ l. l.job) ts) → AreOn earlier t fs ts new told'
  all_on earlier t fs old told [] new told' (same, tells') tells kept rests distinct = record {
    now = t;
    tells = tells' ∙ tells;
    orders = [];
    added = sym (append-nil t.orders);
    finishes = refl;
    each = [];
    all = refl;
    left = fs;
    answers = λ more. refl;
    right = tt;
    documents = λ documents handed. tt;
    kept = subst (λ xs. AreKeptFrom xs new) (sym (append-nil earlier)) (subst (AreKeptFrom earlier) (sym same) kept);
    due = refl;
  }
  all_on earlier t fs old told (l ∷ ts) new told' (launch, launches) tells kept rests distinct =
      let js : List ℕ = map (λ l. l.job) ts in
      let one = one_on earlier t fs old told l.job l.document l.launch l.slots l.told launch tells kept rests.0 in
      let more = all_on (earlier ++ one.each) one.now one.left l.slots l.told ts new told' launches one.tells one.kept (rest_same l.job old l.slots one.same js distinct.0 rests.1) distinct.1 in
      let here : finite.get new l.job ≡ finite.get l.slots l.job = launches_same place s numbers l.slots l.told ts new told' launches l.job distinct.0 in
      let grown : (earlier ++ one.each) ++ more.each ≡ earlier ++ (one.each ++ more.each) = append_assoc earlier one.each more.each in
      record {
        now = more.now;
        tells = more.tells;
        orders = one.orders ++ more.orders;
        added = more.added ∙ ap (λ ps. ps ++ more.orders) one.added ∙ append_assoc t.orders one.orders more.orders;
        finishes = more.finishes ∙ one.finishes;
        each = one.each ++ more.each;
        all = map-append (λ (x : AnsweredOrder). x.order) one.each more.each ∙ ap (λ os. os ++ map (λ x. x.order) more.each) one.all ∙ ap (λ os. map (λ p. p.order) one.orders ++ os) more.all ∙ sym (map-append (λ (p : Placed). p.order) one.orders more.orders);
        left = more.left;
        answers = λ further.
            ap (answered t.starts fs) (append_assoc one.orders more.orders further)
            ∙ one.answers (more.orders ++ further)
            ∙ ap (λ xs. one.each ++ xs) (more.answers further)
            ∙ sym (append_assoc one.each more.each (answered more.now.starts more.left further));
        right = right_both earlier one.each more.each one.right more.right;
        documents = λ documents handed. documents_both documents one.orders more.orders (one.documents documents handed.0) (more.documents documents handed.1);
        kept = subst (λ xs. AreKeptFrom xs new) grown more.kept;
        due = (
          subst (λ xs. IsDueAt xs l.job (finite.get new l.job) fs) grown (due_more (earlier ++ one.each) more.each l.job (finite.get new l.job) fs (subst (λ o. IsDueAt (earlier ++ one.each) l.job o fs) (sym here) one.due)),
          subst (λ gs. AreDue (earlier ++ (one.each ++ more.each)) new js gs more.left) (sym (ap (λ o. left_at o fs) here ∙ one.rest)) (subst (λ xs. AreDue xs new js one.left more.left) grown more.due),
        );
      }

-- ## The end of a stage

module _ {D : Type 0} (device : DiskView D) (xs : List AnsweredOrder) where
  -- The output of a stage that has ended with 0 is the input of the next one.
  advanced_kept : (slots : Slots) (j : ℕ) (slot : Slot ℕ) (finish : Finish) → finite.get slots j ≡ Some slot → slot.progress ≡ Ended finish → AreKeptFrom xs slots → finish.exit ≡ Code 0 → AreKeptFrom xs (advanced_in slots j)
  advanced_kept slots j slot finish there ended kept zero =
      let own : slot_in slots j ≡ slot = ap (λ o. unwrap_or o (begun 0 0)) there in
      let (n, stage, has) = subst (IsKeptFrom xs j slot) ended (kept j slot there) in
      let given_in : HasGiven xs (record { job = j; attempt = slot.attempt; stage = suc n }) finish.output = subst (λ m. HasGiven xs (record { job = j; attempt = slot.attempt; stage = m }) finish.output) stage (has zero) in
      let put : Slot ℕ = record { attempt = slot.attempt; stage = slot.stage + 1; progress = Ready (Some finish.output) } in
      let same : advanced (slot_in slots j) ≡ put = ap advanced own ∙ ap (λ p. record { attempt = slot.attempt; stage = slot.stage + 1; progress = Ready (Some (finish_in p).output) }) ended in
      kept_but xs j slots (advanced_in slots j) (λ k other. get_other slots j k (advanced (slot_in slots j)) other) kept
      (own_kept xs j (advanced_in slots j) put (get_own slots j (advanced (slot_in slots j)) ∙ ap Some same) (n, ap (λ m. m + 1) stage ∙ add-one (suc n), given_in))

  reply_kept : (slots : Slots) (j : ℕ) (slot : Slot ℕ) (finish : Finish) → finite.get slots j ≡ Some slot → slot.progress ≡ Ended finish → AreKeptFrom xs slots → (reply : Reply) → ((p : Phase) → reply ≡ replies.Phase p → is_processing p ≡ true → finish.exit ≡ Code 0) → AreKeptFrom xs (moved_by slots j reply)
  reply_kept slots j slot finish there ended kept replies.Done zero = gone_kept xs slots j kept
  reply_kept slots j slot finish there ended kept (replies.Number n) zero = gone_kept xs slots j kept
  reply_kept slots j slot finish there ended kept (replies.Size n) zero = gone_kept xs slots j kept
  reply_kept slots j slot finish there ended kept (replies.Phase p) zero = by_phase (is_processing p && nat_lt (slot_in slots j).stage 16) refl
    where
      by_phase : (b : Bool) → (is_processing p && nat_lt (slot_in slots j).stage 16) ≡ b → AreKeptFrom xs (cond b (advanced_in slots j) (finite.remove slots j))
      by_phase true is = advanced_kept slots j slot finish there ended kept (zero p refl (first_so (is_processing p) (nat_lt (slot_in slots j).stage 16) is))
      by_phase false is = gone_kept xs slots j kept

  abbrev phase_in : Reply → Phase
  phase_in (replies.Phase p) = p
  phase_in replies.Done = Completed
  phase_in (replies.Number n) = Completed
  phase_in (replies.Size n) = Completed

  pub report_kept : (old new : RunState D) (j : ℕ) (slot : Slot ℕ) (finish : Finish) (report : Report) → IsReport device old j report new → IsLegal old.spool.state → finite.get old.slots j ≡ Some slot → slot.progress ≡ Ended finish → AreKeptFrom xs old.slots → AreKeptFrom xs new.slots
  report_kept old new j slot finish reports.Silent is legal there ended kept = absurd is
  report_kept old new j slot finish reports.NoMemory is legal there ended kept = subst (λ (c : RunState D). AreKeptFrom xs c.slots) (sym is) kept
  report_kept old new j slot finish (reports.Answered (Err fault)) (is, slots, told) legal there ended kept = subst (AreKeptFrom xs) (sym slots) kept
  report_kept old new j slot finish (reports.Answered (Ok reply)) (is, slots, told) legal there ended kept =
      subst (AreKeptFrom xs) (sym slots) (reply_kept old.slots j slot finish there ended kept reply (λ p at goes.
      let end = end_in old.slots j in
      let accepted : refusal_of old.spool.state (Stage end) ≡ None = is.cause.fits.accepted in
      let replied = (done_state old.spool.state (Stage end) (refusal_of old.spool.state (Stage end)) new.spool.state reply refl accepted is.cause.step).1 in
      let own : slot_in old.slots j ≡ slot = ap (λ o. unwrap_or o (begun 0 0)) there in
      let exit : end.exit ≡ finish.exit = ap (λ (x : Slot ℕ). (finish_in x.progress).exit) own ∙ ap (λ p. (finish_in p).exit) ended in
      sym exit ∙ goes_on_zero old.spool.state legal end accepted (ap (λ r. is_processing (phase_in r)) (replied ∙ at) ∙ goes)))

  -- The result of the end of a stage.
  pub record IsEndOn (t : ChildTrace) (old : RunState D) (j : ℕ) (js : List ℕ) (new : RunState D) : Type 0 where
    pub now : ChildTrace
    pub tells : new.told ≡ Some now
    pub orders : now.orders ≡ t.orders
    pub starts : now.starts ≡ t.starts
    pub finishes : now.finishes ≡ left_at (finite.get old.slots j) t.finishes
    pub running : now.running ≡ running_in old.slots js
    pub kept : AreKeptFrom xs new.slots

  end_on : (t : ChildTrace) (old : RunState D) (e : Ending D) (js : List ℕ) → IsEndingOf device old (is_silent (finite.get old.slots e.job)) e → IsLegal old.spool.state → old.told ≡ Some t → t.running ≡ running_in old.slots (e.job ∷ js) → IsDueAt xs e.job (finite.get old.slots e.job) t.finishes → AreKeptFrom xs old.slots → IsEndOn t old e.job js e.next
  end_on t old e js ends legal tells runs due kept_old = by_slot (finite.get old.slots e.job) refl
    where
      unchanged : with_slot (finite.get old.slots e.job) (running_in old.slots js) ≡ running_in old.slots js → left_at (finite.get old.slots e.job) t.finishes ≡ t.finishes → e.next ≡ old → IsEndOn t old e.job js e.next
      unchanged silent left is = record {
        now = t;
        tells = ap (λ (c : RunState D). c.told) is ∙ tells;
        orders = refl;
        starts = refl;
        finishes = sym left;
        running = runs ∙ silent;
        kept = subst (λ (c : RunState D). AreKeptFrom xs c.slots) (sym is) kept_old;
      }

      legal_kept : e.kept.spool ≡ old.spool → IsLegal e.kept.spool.state
      legal_kept same = subst (λ (x : OpenSpool D). IsLegal x.state) (sym same) legal

      by_progress : (slot : Slot ℕ) (p : Progress ℕ) → finite.get old.slots e.job ≡ Some slot → slot.progress ≡ p → IsEndingOf device old (is_ready p) e → IsEndOn t old e.job js e.next
      by_progress slot (Ready input) there is ending =
          unchanged (ap (λ o. with_slot o (running_in old.slots js)) there ∙ ap (λ p. with_number p (running_in old.slots js)) is) (ap (λ o. left_at o t.finishes) there ∙ ap (λ p. left_by p t.finishes) is) ending.2
      by_progress slot (Running n) there is ending =
          let own : slot_in old.slots e.job ≡ slot = ap (λ o. unwrap_or o (begun 0 0)) there in
          let at : (slot_in old.slots e.job).progress ≡ Running n = ap (λ (x : Slot ℕ). x.progress) own ∙ is in
          let fin : Waits old.told n old.slots e.job e.kept.slots e.kept.told = subst (λ p. FinishesFrom p old.told old.slots e.job e.kept.slots e.kept.told) at ending.0 in
          let first : running_in old.slots (e.job ∷ js) ≡ n ∷ running_in old.slots js = ap (λ o. with_slot o (running_in old.slots js)) there ∙ ap (λ p. with_number p (running_in old.slots js)) is in
          let told = subst (λ o. IsFinish o n fin.finish e.kept.told) tells fin.answer (ap (λ ns. is_in n ns) (runs ∙ first) ∙ in_head n (running_in old.slots js)) in
          let put : Slot ℕ = with_progress slot (Ended fin.finish) in
          let here : finite.get e.kept.slots e.job ≡ Some put =
          ap (λ m. finite.get m e.job) fin.slots ∙ get_own old.slots e.job (with_progress (slot_in old.slots e.job) (Ended fin.finish)) ∙ ap (λ (x : Slot ℕ). Some (with_progress x (Ended fin.finish))) own in
          let ran : HasRun xs (record { job = e.job; attempt = slot.attempt; stage = slot.stage }) (first_finish t.finishes) = subst (λ p. IsDueBy xs e.job slot p t.finishes) is (subst (λ o. IsDueAt xs e.job o t.finishes) there due) in
          let (m, stage) = subst (IsKeptFrom xs e.job slot) is (kept_old e.job slot there) in
          let kept_then : AreKeptFrom xs e.kept.slots =
          kept_but xs e.job old.slots e.kept.slots (λ k other. ap (λ m. finite.get m k) fin.slots ∙ get_other old.slots e.job k (with_progress (slot_in old.slots e.job) (Ended fin.finish)) other) kept_old
          (own_kept xs e.job e.kept.slots put here (m, stage, λ zero. run_given xs _ (first_finish t.finishes) ran fin.finish told.0 zero)) in
          record {
            now = after_finish t n;
            tells = (report_same device e.kept e.job e.report e.next ending.2).0 ∙ told.1;
            orders = refl;
            starts = refl;
            finishes = sym (ap (λ o. left_at o t.finishes) there ∙ ap (λ p. left_by p t.finishes) is);
            running = ap (λ ns. without n ns) (runs ∙ first) ∙ without_head n (running_in old.slots js);
            kept = report_kept e.kept e.next e.job put fin.finish e.report ending.2 (legal_kept ending.1) here refl kept_then;
          }
      by_progress slot (Ended finish) there is ending =
          let at : (slot_in old.slots e.job).progress ≡ Ended finish = ap (λ o. (unwrap_or o (begun 0 0)).progress) there ∙ is in
          let fin : (e.kept.slots ≡ old.slots) × (e.kept.told ≡ old.told) = subst (λ p. FinishesFrom p old.told old.slots e.job e.kept.slots e.kept.told) at ending.0 in
          record {
            now = t;
            tells = (report_same device e.kept e.job e.report e.next ending.2).0 ∙ fin.1 ∙ tells;
            orders = refl;
            starts = refl;
            finishes = sym (ap (λ o. left_at o t.finishes) there ∙ ap (λ p. left_by p t.finishes) is);
            running = runs ∙ ap (λ o. with_slot o (running_in old.slots js)) there ∙ ap (λ p. with_number p (running_in old.slots js)) is;
            kept = report_kept e.kept e.next e.job slot finish e.report ending.2 (legal_kept ending.1) (ap (λ m. finite.get m e.job) fin.0 ∙ there) is (subst (AreKeptFrom xs) (sym fin.0) kept_old);
          }

      by_slot : (o : Option (Slot ℕ)) → finite.get old.slots e.job ≡ o → IsEndOn t old e.job js e.next
      by_slot None there = unchanged (ap (λ o. with_slot o (running_in old.slots js)) there) (ap (λ o. left_at o t.finishes) there) (subst (λ o. IsEndingOf device old (is_silent o) e) there ends).2
      by_slot (Some slot) there = by_progress slot slot.progress there refl (subst (λ o. IsEndingOf device old (is_silent o) e) there ends)

  -- The result of all the ends.
  pub record AreEndsOn (t : ChildTrace) (left : Finishes) (new : RunState D) : Type 0 where
    pub now : ChildTrace
    pub tells : new.told ≡ Some now
    pub orders : now.orders ≡ t.orders
    pub starts : now.starts ≡ t.starts
    pub finishes : now.finishes ≡ left
    pub kept : AreKeptFrom xs new.slots

  pub ends_on : ((s : State) (events : List _) → IsLegal s → IsLegal (after_all s events)) → (t : ChildTrace) (old : RunState D) (es : List (Ending D)) (new : RunState D) (left : Finishes) → AreEndings device old es new → IsLegal old.spool.state → old.told ≡ Some t → t.running ≡ running_in old.slots (map (λ e. e.job) es) → AreDistinct (map (λ e. e.job) es) → AreDue xs old.slots (map (λ e. e.job) es) t.finishes left → AreKeptFrom xs old.slots → AreEndsOn t left new
  ends_on stays t old [] new left same legal tells runs distinct due kept = record {
    now = t;
    tells = ap (λ (c : RunState D). c.told) same ∙ tells;
    orders = refl;
    starts = refl;
    finishes = due;
    kept = subst (λ (c : RunState D). AreKeptFrom xs c.slots) (sym same) kept;
  }
  ends_on stays t old (e ∷ es) new left (ends, others) legal tells runs distinct due kept =
      let js : List ℕ = map (λ e. e.job) es in
      let one = end_on t old e js ends legal tells runs due.0 kept in
      let same : SameBut e.job old.slots e.next.slots = (end_rests device old e ends).0 in
      let legal_then : IsLegal e.next.spool.state = subst IsLegal (sym (end_part device old e ends).table) (stays old.spool.state (report_events (Stage (end_in e.kept.slots e.job)) e.report) legal) in
      let due_then : AreDue xs e.next.slots js one.now.finishes left = subst (λ fs. AreDue xs e.next.slots js fs left) (sym one.finishes) (due_same xs e.job old.slots e.next.slots same js distinct.0 (left_at (finite.get old.slots e.job) t.finishes) left due.1) in
      let more = ends_on stays one.now e.next es new left others legal_then one.tells (one.running ∙ sym (running_same e.job old.slots e.next.slots same js distinct.0)) distinct.1 due_then one.kept in
      record {
        now = more.now;
        tells = more.tells;
        orders = more.orders ∙ one.orders;
        starts = more.starts ∙ one.starts;
        finishes = more.finishes;
        kept = more.kept;
      }
