-- The history of the loop, and what it is for each client.
use Rattle.std.proofs.Common.{◌≡◌, ◌⊎◌, inl, inr, ℕ, zero, suc, ◌<◌, ◌≤◌, Bool, List, [], ◌∷◌, ◌++◌, Option, None, Some, refl, ap, sym, ◌∙◌, subst, arith}
use Rattle.std.specs.Prelude.{IfSome}
use Rattle.std.specs.Io.KnownBytes.{Keeps}
use Rattle.std.proofs.lemmas.Bool.{cases_eq}
use Rattle.slab.specs.Slab.{Slab, SameValues, get}
use Rattle.spool_disk.specs.Disk.{DiskView}
use Rattle.spool_engine.specs.EngineRuns.{Engine}
use Rattle.service_rules.specs.Bounds.{most_clients}
use Rattle.service_rules.specs.ClientAdmission.{IsAdmission}
use Rattle.service_rules.specs.declared.slots.Admission.{Admission}
use Rattle.service_rules.specs.declared.slots.Admission.TheVariants.{Free, InsteadOf, Busy}
use Rattle.service_texts.specs.Notices.{Noted}
use Rattle.spool_types.specs.State.{State}
use Rattle.service_loop.specs.Progress.{news_for}
use Rattle.service_loop.specs.AdmissionViews.{heard_of}
use Rattle.service_loop.specs.ClientSlots.{HadTurn, HaveTurns, IsEntered, IsLetIn, IsNewcomer, IsSlotNotified, IsSlotSignaled, KeepsOthers, SlotHadTurn, unless_parted}
use Rattle.service_loop.specs.ClientSteps.{AreClientSteps, ClientStep, IsClientStepBy, actions_of, changes, client_after, signs, status_of, turns}
use Rattle.service_loop.specs.ConnectionViews.{ConnectionView}
use Rattle.service_loop.specs.ServiceCalls.{GoesByCalls}
use Rattle.service_loop.specs.SlotHistories.{AreLoopEvents, AreNotified, AreServedApart, GoesByEvents, HasAdmitted, HasBrought, HasServed, IsLoopEvent, IsServedApart, IsServedRight, LoopEvent, enters, gives_up, notifies, readies, takes_turn, works}
use Rattle.service_loop.specs.declared.client.Client.{Client}
use Rattle.service_loop.specs.declared.client.Disconnect.{Disconnect}
use Rattle.service_loop.proofs.CallLaws.{no_calls}
use Rattle.client_standing.specs.ClientStanding.{first_standing}
use Rattle.client_standing.specs.declared.rules.RoleRules.{RoleRules}
use Rattle.service_loop.specs.ClientActions.{standing_after_all}
use Rattle.service_loop.proofs.ClientStepLaws.{answers_come_in_order, proofs_by_steps, standing_by_steps, told_once}

-- ## Histories

module _ {D L : Type 0} (device : DiskView D) (view : ConnectionView L) where
  pub history_none : (e : Engine D) (s : Slab (Client L)) → GoesByEvents device view e s e s
  history_none e s = record { events = []; are = (refl, refl) }

  events_then : (e : Engine D) (s : Slab (Client L)) (xs ys : List (LoopEvent L)) (e1 : Engine D) (s1 : Slab (Client L)) (e2 : Engine D) (s2 : Slab (Client L)) →
      AreLoopEvents device view e s xs e1 s1 → AreLoopEvents device view e1 s1 ys e2 s2 → AreLoopEvents device view e s (xs ++ ys) e2 s2
  events_then e s [] ys e1 s1 e2 s2 (same, kept) two =
      subst (λ (x : Engine D). AreLoopEvents device view x s ys e2 s2) same (subst (λ (t : Slab (Client L)). AreLoopEvents device view e1 t ys e2 s2) kept two)
  events_then e s (x ∷ xs) ys e1 s1 e2 s2 (mid, between, is, others) two = (mid, between, is, events_then mid between xs ys e1 s1 e2 s2 others two)

  pub history_then : (e : Engine D) (s : Slab (Client L)) (e1 : Engine D) (s1 : Slab (Client L)) (e2 : Engine D) (s2 : Slab (Client L)) →
      GoesByEvents device view e s e1 s1 → GoesByEvents device view e1 s1 e2 s2 → GoesByEvents device view e s e2 s2
  history_then e s e1 s1 e2 s2 one two = record { events = one.events ++ two.events; are = events_then e s one.events two.events e1 s1 e2 s2 one.are two.are }

  pub history_one : (e : Engine D) (s : Slab (Client L)) (x : LoopEvent L) (e1 : Engine D) (s1 : Slab (Client L)) → IsLoopEvent device view e s x e1 s1 → GoesByEvents device view e s e1 s1
  history_one e s x e1 s1 is = record { events = x ∷ []; are = (e1, s1, is, (refl, refl)) }

  -- An unchanged engine, and unchanged slots.
  pub history_kept : (e : Engine D) (s : Slab (Client L)) (e1 : Engine D) (s1 : Slab (Client L)) (e2 : Engine D) (s2 : Slab (Client L)) →
      GoesByEvents device view e s e1 s1 → e2 ≡ e1 → s2 ≡ s1 → GoesByEvents device view e s e2 s2
  history_kept e s e1 s1 e2 s2 goes same kept =
      subst (λ (x : Engine D). GoesByEvents device view e s x s2) (sym same) (subst (λ (t : Slab (Client L)). GoesByEvents device view e s e1 t) (sym kept) goes)

  -- An engine and slots that are the earlier ones.
  pub history_since : (e : Engine D) (s : Slab (Client L)) (e0 : Engine D) (s0 : Slab (Client L)) (e1 : Engine D) (s1 : Slab (Client L)) → e0 ≡ e → s0 ≡ s →
      GoesByEvents device view e0 s0 e1 s1 → GoesByEvents device view e s e1 s1
  history_since e s e0 s0 e1 s1 same kept goes =
      subst (λ (x : Engine D). GoesByEvents device view x s e1 s1) same (subst (λ (t : Slab (Client L)). GoesByEvents device view e0 t e1 s1) kept goes)

  -- Calls of the service itself.
  pub history_works : (e : Engine D) (s : Slab (Client L)) (e1 : Engine D) (s1 : Slab (Client L)) → GoesByCalls device e e1 → s1 ≡ s → GoesByEvents device view e s e1 s1
  history_works e s e1 s1 calls kept = history_one e s works e1 s1 (calls, λ key. ap (λ (t : Slab (Client L)). get t key) kept)

  same_values : (e : Engine D) (s s1 : Slab (Client L)) → SameValues s s1 → GoesByEvents device view e s e s1
  same_values e s s1 same = history_one e s works e s1 (no_calls device e, same)

  -- The events of a turn of the loop up to maintenance, which changes no client, as the tick.
  pub turn_history : (e : Engine D) (s : Slab (Client L)) (e1 : Engine D) (s1 : Slab (Client L)) (e2 : Engine D) (s2 : Slab (Client L)) (e3 : Engine D) (s3 : Slab (Client L)) (e4 : Engine D)
      (s4 : Slab (Client L)) (e5 : Engine D) (s5 : Slab (Client L)) → GoesByEvents device view e s e1 s1 → GoesByEvents device view e1 s1 e2 s2 → GoesByEvents device view e2 s2 e3 s3 →
      GoesByCalls device e3 e4 → s4 ≡ s3 → GoesByCalls device e4 e5 → s5 ≡ s4 → GoesByEvents device view e s e5 s5
  turn_history e s e1 s1 e2 s2 e3 s3 e4 s4 e5 s5 waited entered served ticked fourth kept fifth =
      history_then e s e4 s4 e5 s5
      (history_then e s e3 s3 e4 s4 (history_then e s e2 s2 e3 s3 (history_then e s e1 s1 e2 s2 waited entered) served) (history_works e3 s3 e4 s4 ticked fourth))
      (history_works e4 s4 e5 s5 kept fifth)

  -- Readiness.
  pub history_readies : (e : Engine D) (s : Slab (Client L)) (key : ℕ) (writable gone : Bool) (e1 : Engine D) (s1 : Slab (Client L)) → e1 ≡ e →
      IsSlotSignaled view writable gone (get s key) (get s1 key) → KeepsOthers key s s1 → GoesByEvents device view e s e1 s1
  history_readies e s key writable gone e1 s1 same own others = history_one e s (readies key writable gone) e1 s1 (same, own, others)

  -- The turns of all clients.
  pub history_turns : (e : Engine D) (s : Slab (Client L)) (n : ℕ) (e1 : Engine D) (s1 : Slab (Client L)) → HaveTurns device view e s n e1 s1 → GoesByEvents device view e s e1 s1
  unfolding HaveTurns
  history_turns e s zero e1 s1 (same, kept) = record { events = []; are = (same, kept) }
  history_turns e s (suc n) e1 s1 (between, mid, turn, so_far, next) =
      history_then e s between mid e1 s1 (history_turns e s n between mid so_far) (history_one between mid (takes_turn n turn) e1 s1 next)

  -- A notice over an equal table.
  pub history_notifies : (e : Engine D) (s : Slab (Client L)) (t : State) (noted : Noted) (last : ℕ) (e1 : Engine D) (s1 : Slab (Client L)) → e1 ≡ e → t ≡ e.run_state.spool.state →
      AreNotified (news_for t noted last) s s1 → GoesByEvents device view e s e1 s1
  history_notifies e s t noted last e1 s1 same table notified =
      history_one e s (notifies noted last) e1 s1 (same, subst (λ (x : State). AreNotified (news_for x noted last) s s1) table notified)

  -- An admission.
  entered : (e : Engine D) (s : Slab (Client L)) (connection : L) (s1 : Slab (Client L)) → IsEntered view connection s s1 → GoesByEvents device view e s e s1
  entered e s connection s1 (inl same) = same_values e s s1 same
  entered e s connection s1 (inr has) = history_one e s (enters connection) e s1 (refl, has)

  let_in : (e : Engine D) (s : Slab (Client L)) (places : ℕ) (connection : L) (now : ℕ) (admission : Admission) (s1 : Slab (Client L)) → IsAdmission places (heard_of s) now admission →
      IsLetIn view connection admission s s1 → GoesByEvents device view e s e s1
  let_in e s places connection now Free s1 is way = history_then e s e way.left e s1 (same_values e s way.left way.gone) (entered e way.left connection s1 way.entered)
  let_in e s places connection now (InsteadOf key) s1 is way =
      history_then e s e way.left e s1 (history_one e s (gives_up key now places) e way.left (refl, record { idle = is; gone = way.gone })) (entered e way.left connection s1 way.entered)
  let_in e s places connection now Busy s1 is way = history_then e s e way.left e s1 (same_values e s way.left way.gone) (entered e way.left connection s1 way.entered)

  pub history_admits : (e : Engine D) (s : Slab (Client L)) (places : ℕ) (connection : L) (now : ℕ) (e1 : Engine D) (s1 : Slab (Client L)) → e1 ≡ e → HasAdmitted view places connection now s s1 →
      GoesByEvents device view e s e1 s1
  history_admits e s places connection now e1 s1 same (inl none) = history_kept e s e s1 e1 s1 (same_values e s s1 none) same refl
  history_admits e s places connection now e1 s1 same (inr (admission, is, way)) = history_kept e s e s1 e1 s1 (let_in e s places connection now admission s1 is way) same refl

-- ## Each client

module _ {D L : Type 0} (device : DiskView D) (view : ConnectionView L) where
  steps_then : (c : Client L) (xs : List (ClientStep D L)) (c1 : Client L) (x : ClientStep D L) → AreClientSteps device view c xs c1 → IsClientStepBy device view c1 x →
      AreClientSteps device view c (xs ++ x ∷ []) (client_after x)
  steps_then c [] c1 x same is = (subst (λ (y : Client L). IsClientStepBy device view y x) same is, refl)
  steps_then c (y ∷ ys) c1 x (first, others) is = (first, steps_then (client_after y) ys c1 x others is)

  module _ (came : L → Type 0) where
    -- One more step.
    further : (c : Client L) (x : ClientStep D L) → IsServedApart device view came c → IsClientStepBy device view c x → IsServedApart device view came (client_after x)
    further c x served is = record {
      connection = served.connection;
      admitted = served.admitted;
      own = served.own;
      untouched = served.untouched;
      first = served.first;
      entry = served.entry;
      client_steps = served.client_steps ++ x ∷ [];
      are = steps_then served.first served.client_steps c x served.are is;
    }

    abbrev Apart : Option (Client L) → Type 0
    Apart slot = IfSome slot (IsServedApart device view came)

    readied : (writable gone : Bool) (was is : Option (Client L)) → IsSlotSignaled view writable gone was is → Apart was → Apart is
    readied writable gone None is none apart = subst Apart (sym none) tt
    readied writable gone (Some c) None signaled apart = absurd signaled
    readied writable gone (Some c) (Some c1) (goes, signed) apart = further c (signs c1) apart (goes, ap (λ (x : Client L). status_of x) signed)

    notified : (news : Client L → List ℕ) (was is : Option (Client L)) → IsSlotNotified news was is → Apart was → Apart is
    notified news None is none apart = subst Apart (sym none) tt
    notified news (Some c) None told apart = tt
    notified news (Some c) (Some c1) (of, added, missed, kept) apart = further c (changes (news c) _ c1) apart (of, added, kept)

    newcomer : (connection : L) (is : Option (Client L)) → came connection → IsNewcomer view connection is → Apart is
    newcomer connection None brought new = absurd new
    newcomer connection (Some c) brought (own, untouched, entry) = record {
      connection = connection;
      admitted = brought;
      own = own;
      untouched = untouched;
      first = c;
      entry = entry;
      client_steps = [];
      are = refl;
    }

    stayed : (e : Engine D) (was : Client L) (disconnect : Option Disconnect) (e1 : Engine D) (is : Option (Client L)) (had : HadTurn device view e was disconnect e1 is) →
        IsServedApart device view came was → Apart (unless_parted disconnect had.is)
    stayed e was None e1 is had apart =
        let took = had.client_step refl in
        further was (turns e took.0 e1 had.is) apart took.1
    stayed e was (Some disconnect) e1 is had apart = tt

    turned : (e : Engine D) (was : Option (Client L)) (turn : Option (Option Disconnect)) (e1 : Engine D) (is : Option (Client L)) → SlotHadTurn device view e was turn e1 is → Apart was → Apart is
    turned e None None e1 is (same, none) apart = subst Apart (sym none) tt
    turned e None (Some disconnect) e1 is had apart = absurd had
    turned e (Some was) None e1 is had apart = absurd had
    turned e (Some was) (Some disconnect) e1 is had apart = subst Apart (sym had.stays) (stayed e was disconnect e1 is had apart)

    -- One slot changed.
    one_of : (key : ℕ) (s s1 : Slab (Client L)) → KeepsOthers key s s1 → (Apart (get s key) → Apart (get s1 key)) → AreServedApart device view came s → AreServedApart device view came s1
    one_of key s s1 others own all k =
        elim (cases_eq k key) [
          | inl same ↦ subst (λ (j : ℕ). Apart (get s1 j)) (sym same) (own (all key))
          | inr differs ↦ subst Apart (sym (others k differs)) (all k)
        ]

    each_of : (news : Client L → List ℕ) (s s1 : Slab (Client L)) → AreNotified news s s1 → AreServedApart device view came s → AreServedApart device view came s1
    each_of news s s1 notes all k = by_place (place k)
      where
        place : (k : ℕ) → (k < most_clients) ⊎ (most_clients ≤ k)
        place k = grind arith

        by_place : (k < most_clients) ⊎ (most_clients ≤ k) → Apart (get s1 k)
        by_place (inl lt) = notified news (get s k) (get s1 k) (notes.each k lt) (all k)
        by_place (inr le) = subst Apart (sym (notes.others k le)) (all k)

    apart_event : (e : Engine D) (s : Slab (Client L)) (x : LoopEvent L) (e1 : Engine D) (s1 : Slab (Client L)) → IsLoopEvent device view e s x e1 s1 →
        ((connection : L) → x ≡ enters connection → came connection) → AreServedApart device view came s → AreServedApart device view came s1
    apart_event e s works e1 s1 (calls, same) brings all = λ k. subst Apart (sym (same k)) (all k)
    apart_event e s (readies key writable gone) e1 s1 (same, own, others) brings all = one_of key s s1 others (readied writable gone (get s key) (get s1 key) own) all
    apart_event e s (gives_up key now places) e1 s1 (same, left) brings all =
        one_of key s s1 left.gone.others (λ was. subst Apart (sym left.gone.changed) tt) all
    apart_event e s (enters connection) e1 s1 (same, has) brings all =
        one_of has.key s s1 has.others (λ was. newcomer connection (get s1 has.key) (brings connection refl) has.own) all
    apart_event e s (takes_turn key turn) e1 s1 had brings all = one_of key s s1 had.others (turned e (get s key) turn e1 (get s1 key) had.own) all
    apart_event e s (notifies noted last) e1 s1 (same, notes) brings all = each_of (news_for e.run_state.spool.state noted last) s s1 notes all

    apart_events : (e : Engine D) (s : Slab (Client L)) (xs : List (LoopEvent L)) (e1 : Engine D) (s1 : Slab (Client L)) → AreLoopEvents device view e s xs e1 s1 →
        ((connection : L) → HasBrought xs connection → came connection) → AreServedApart device view came s → AreServedApart device view came s1
    apart_events e s [] e1 s1 (same, kept) brings all = subst (AreServedApart device view came) (sym kept) all
    apart_events e s (x ∷ xs) e1 s1 (mid, between, is, others) brings all =
        apart_events mid between xs e1 s1 others (λ connection brought. brings connection (inr brought))
        (apart_event e s x mid between is (λ connection here. brings connection (inl here)) all)

  known : (view_of : L → Option (List ℕ)) (given own : L) (text : List ℕ) → Keeps (view_of given) (view_of own) → view_of given ≡ Some text → view_of own ≡ Some text
  known view_of given own text = by_known (view_of given) (view_of own)
    where
      by_known : (a b : Option (List ℕ)) → Keeps a b → a ≡ Some text → b ≡ Some text
      by_known None b kept is = absurd (cc)
      by_known (Some x) None kept is = absurd kept
      by_known (Some x) (Some y) kept is = ap Some kept ∙ is

  -- Each client that is left after the events was served apart.
  pub served_right : (e : Engine D) (s : Slab (Client L)) (xs : List (LoopEvent L)) (e1 : Engine D) (s1 : Slab (Client L)) → HasServed device view e s xs e1 s1 →
      (key : ℕ) (c : Client L) → get s1 key ≡ Some c → IsServedRight device view xs c
  served_right e s xs e1 s1 gone key c there =
      let all = apart_events (HasBrought xs) e s xs e1 s1 gone.are (λ connection brought. brought) (λ k. subst (λ (slot : Option (Client L)). IfSome slot (IsServedApart device view (HasBrought xs))) (sym (gone.empty k)) tt) in
      let served : IsServedApart device view (HasBrought xs) c = subst (λ (slot : Option (Client L)). IfSome slot (IsServedApart device view (HasBrought xs))) there (all key) in
      record {
        served = served;
        asks = λ text brings. answers_come_in_order device view served.own served.first served.client_steps c served.entry served.are text
            (known view.remaining served.connection served.own text served.untouched.remaining brings);
        texts = λ said holds. told_once device view served.own served.first served.client_steps c served.entry served.are said
            (known view.contents served.connection served.own said served.untouched.contents holds);
        standing =
            standing_by_steps device view served.own served.first served.client_steps c served.entry served.are
            ∙ ap (λ (rules : RoleRules). standing_after_all (first_standing rules (view.is_operators served.own)) (actions_of served.client_steps)) served.untouched.rules
            ∙ ap (λ (is : Bool). standing_after_all (first_standing (view.rules served.connection) is) (actions_of served.client_steps)) served.untouched.is_operators;
        proofs = λ steps reports. proofs_by_steps device view served.own served.first served.client_steps c served.entry served.are steps (served.untouched.proofs ∙ reports);
      }
