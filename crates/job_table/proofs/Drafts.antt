-- The draft of a lane after a job was added, and the lane that results from it.
use Rattle.std.proofs.Common.{◌≡◌, ◌↔◌, ℕ, ◌+◌, ◌<◌, ◌≤◌, ◌⊎◌, inl, inr, List, [], ◌∷◌, ◌++◌, length, get_or, Some, None, Vec, Global, refl, sym, ap, subst, ◌∙◌, arith}
use Rattle.std.specs.List.{All, Contains}
use Rattle.std.specs.FinMap as finite
use Rattle.std.proofs.lemmas.Bool.{cases_lt}
use Rattle.std.proofs.lemmas.List.{length-append, get_or_append_left, get_or_push}
use Rattle.std.proofs.lemmas.List.Quantifiers.{all_pairs_push}
use Rattle.std.proofs.lemmas.List.Elements.{Contains-append_left, Contains-get_or, Contains-push, Contains-push_cases}
use Rattle.spool_types.specs.State.{State}
use Rattle.queue_sched.specs.WaitingIndex.{Waits, HasEachOnce}
use Rattle.queue_sched.specs.declared.entry.Entry.{Entry}
use Rattle.job_table.specs.LaneDrafts.{drafted, IsBlank, IsDraft, AreDrafts}
use Rattle.job_table.specs.Lanes.{seat, IsLane, IsAdvanced, IsReseated, AreBeside, IsLaneOf, AreLanes}
use Rattle.job_table.specs.declared.lane.Lane.{Lane}
use Rattle.job_table.specs.declared.lane.LaneState.{LaneState}
use Rattle.job_table.specs.declared.lane.LaneState.TheVariants.{Ended, Incoming, Waiting, Processing}
use Rattle.job_table.specs.declared.lane.draft.Draft.{Draft}
use Rattle.job_table.proofs.Lanes.{empty_lane, lane_with, lacks, left_ended, put_incoming, put_processing, put_waiting}
use Rattle.job_table.proofs.Seats.{lane_as}

-- ## A draft without jobs

pub blank : (vs : Vec Entry Global) → vs.items ≡ [] → IsBlank (record { waiting = vs; processing = None; live = 0 })
blank vs none = record {
  draft = λ seats ended. record {
    lane = empty_lane (record { items = vs.items; moment = 0; room = 0 }) none seats ended;
    once = subst HasEachOnce (sym none) (λ i j d lt within. absurd (omega (arith, within)));
  };
  none = refl;
}

-- ## A job is added

-- The elements of the list, and the appended one.
pushed : (es : List Entry) (e f : Entry) → Contains (es ++ e ∷ []) f ↔ (Contains es f ⊎ (f ≡ e))
pushed es e f = (
  λ there. elim (Contains-push_cases es e f there) [ inl before ↦ inl before | inr own ↦ inr (sym own) ],
  λ either. elim either [
    | inl before ↦ Contains-append_left es (e ∷ []) f before
    | inr own ↦ subst (λ g. Contains (es ++ e ∷ []) g) (sym own) (Contains-push es e)
  ],
)

module _ (old new : ℕ → LaneState) (j : ℕ) (d : Draft) (is : IsDraft old d) (was : old j ≡ Ended) (to : LaneState) (seated : IsReseated old new j to) where
  -- The lane with room for one more job.
  abbrev roomy : Lane
  roomy = record (drafted d) { index = record { items = d.waiting.items; moment = 0; room = d.live + 1 }; reserved = d.live + 1 }

  roomy_lane : IsLane old roomy
  roomy_lane = lane_with (drafted d) roomy.index refl (d.live + 1) (omega arith) (omega arith) old is.lane

  pub add_ended : to ≡ Ended → IsDraft new d
  add_ended is_to = record { lane = left_ended old new j (drafted d) is.lane (subst (IsReseated old new j) is_to seated) was; once = is.once }

  pub add_incoming : to ≡ Incoming → IsDraft new (record d { live = d.live + 1 })
  add_incoming is_to = record { lane = put_incoming old new j roomy roomy_lane to seated was is_to (omega arith) (d.live + 1) refl; once = is.once }

  pub add_processing : to ≡ Processing → d.processing ≡ None → IsDraft new (record d { processing = Some j; live = d.live + 1 })
  add_processing is_to free = record { lane = put_processing old new j roomy roomy_lane to seated was is_to free (omega arith) (d.live + 1) refl; once = is.once }

  pub add_waiting : (e : Entry) → to ≡ Waiting e → e.id ≡ j → (vs : Vec Entry Global) → vs.items ≡ d.waiting.items ++ e ∷ [] → IsDraft new (record d { waiting = vs; live = d.live + 1 })
  add_waiting e is_to own vs items = record {
    lane = put_waiting old new j roomy roomy_lane to seated was e is_to own (record { items = vs.items; moment = 0; room = d.live + 1 })
        (λ f. subst (λ es. Contains es f ↔ (Contains d.waiting.items f ⊎ (f ≡ e))) (sym items) (pushed d.waiting.items e f))
        refl (omega arith) (d.live + 1) refl;
    once = subst HasEachOnce (sym items) (all_pairs_push (λ e f. ¬ (e.id ≡ f.id)) d.waiting.items e is.once
        (λ k f lt same. lacks old (drafted d) j is.lane was (get_or d.waiting.items k f) (Contains-get_or d.waiting.items k f lt) (same ∙ own)));
  }

-- A draft depends only on the lane states of the jobs.
pub draft_as : (old new : ℕ → LaneState) (d : Draft) → ((k : ℕ) → new k ≡ old k) → IsDraft old d → IsDraft new d
draft_as old new d same is = record { lane = lane_as old new (drafted d) same is.lane; once = is.once }

-- ## The resulting lane

pub sorted_lane : (d : Draft) (w : Waits) → ((e : Entry) → Contains w.items e ↔ Contains d.waiting.items e) → d.live ≤ w.room → (now : ℕ) → w.moment ≡ now
    → IsAdvanced now (drafted d) (record { index = w; processing = d.processing; live = d.live; reserved = d.live })
sorted_lane d w items room now moment = record {
  lane = λ seats is. record {
    waiting = λ e there. is.waiting e ((items e).0 there);
    listed = λ j e waits. (let there = is.listed j e waits in (there.0, (items e).1 there.1));
    processing = is.processing;
    found = is.found;
    live = is.live;
    room = omega arith;
    reserved = room;
  };
  live = refl;
  moment = moment;
  reserved = refl;
}

-- ## Pairs of lists

module _ {K X Y : Type 0} (P : K → X → Type 0) (Q : X → Y → Type 0) (R : K → Y → Type 0) (step : (k : K) (x : X) (y : Y) → P k x → Q x y → R k y) where
  pub beside_then : (ks : List K) (xs : List X) (ys : List Y) → AreBeside P ks xs → AreBeside Q xs ys → AreBeside R ks ys
  beside_then ks [] ys first second = record { count = second.count ∙ first.count; each = λ i k y lt. absurd (omega (arith, lt, second.count)) }
  beside_then ks (x ∷ xs) ys first second = record {
    count = second.count ∙ first.count;
    each = λ i k y lt.
        let within : i < length (x ∷ xs) = omega (arith, lt, second.count) in
        step (get_or ks i k) (get_or (x ∷ xs) i x) (get_or ys i y) (first.each i k x within) (second.each i x y lt);
  }

-- One more element at the end of each.
pub beside_push : {K Y : Type 0} (P : K → Y → Type 0) (ks : List K) (ys : List Y) (k : K) (y : Y) → AreBeside P ks ys → P k y → AreBeside P (ks ++ k ∷ []) (ys ++ y ∷ [])
beside_push P ks ys k y are own = record {
  count = length-append ys (y ∷ []) ∙ ap (λ n. n + 1) are.count ∙ sym (length-append ks (k ∷ []));
  each = λ i l z lt. elim (cases_lt i (length ys)) [
    | inl before ↦
        subst (λ m. P m (get_or (ys ++ y ∷ []) i z)) (sym (get_or_append_left ks (k ∷ []) l i (omega (arith, before, are.count))))
        (subst (λ m. P (get_or ks i l) m) (sym (get_or_append_left ys (y ∷ []) z i before)) (are.each i l z before))
    | inr last ↦
        (let end : length ys ≡ i = omega (arith, last, lt, length-append ys (y ∷ [])) in
        subst (λ m. P m (get_or (ys ++ y ∷ []) i z)) (sym (get_or_push ks k l i (sym are.count ∙ end)))
        (subst (λ m. P k m) (sym (get_or_push ys y z i end)) own))
  ];
}

-- ## The lanes of all queues

pub waiting_once : (s : State) (drafts : List Draft) → AreDrafts s drafts → All (λ d. HasEachOnce d.waiting.items) drafts
waiting_once s drafts are i d lt = (are.each i [] d lt).once

-- The lanes that result from the drafts.
pub lanes_become : (s : State) (drafts : List Draft) (lanes : List Lane) → AreDrafts s drafts → AreBeside (λ d lane. IsAdvanced s.moment (drafted d) lane) drafts lanes → AreLanes s 0 lanes
lanes_become s drafts lanes are become =
    beside_then (λ name d. IsDraft (seat s name) d) (λ d lane. IsAdvanced s.moment (drafted d) lane) (IsLaneOf s 0) (λ name d lane is new.
    let own = new.lane (seat s name) is.lane in
    record { lane = own; moment = new.moment; spare = omega (arith, own.room) }) (finite.keys s.queues) drafts lanes are become
