-- Two consecutive calls are one call.
use Rattle.std.proofs.Common.{◌≡◌, ◌⊎◌, inl, inr, Bool, true, false, List, ◌++◌, refl, sym, ap, subst, ◌∙◌, append_assoc}
use Rattle.std.proofs.lemmas.Bool.{both_ways}
use Rattle.std.proofs.lemmas.List.{map-append}
use Rattle.spool_types.specs.declared.event.Event.{Event}
use Rattle.spool_types.specs.State.{State}
use Rattle.job_table.specs.EventFold.{after_all, AreAccepted}
use Rattle.job_table.specs.Legal.{IsLegal}
use Rattle.job_table.specs.Stages.{Key, IsSpent}
use Rattle.child_pipeline.specs.ChildTraces.{ChildTrace}
use Rattle.print_rounds.specs.RunStates.{RunState}
use Rattle.print_rounds.specs.StageHistory.{key_in, keys_in, IsHeld, IsStageCall}
use Rattle.job_table.specs.TableCalls.{AreOnce, IsAmong, IsReached}
use Rattle.job_table.specs.TableVersions.{raised}
use Rattle.print_rounds.proofs.HoldLaws.{Laws}
use Rattle.print_rounds.proofs.KeyLaws.{accepted_both, among_either, once_both, reached_later, reached_sooner}
use Rattle.print_rounds.proofs.PrefixLaws.{after_both}

module _ {D : Type 0} (laws : Laws) (old mid new : RunState D) (t : ChildTrace) (more further : List Event) (one : IsStageCall t old more mid) (two : IsStageCall one.now mid further new) where
  abbrev first_keys : List Key
  first_keys = keys_in one.orders

  abbrev later_keys : List Key
  later_keys = keys_in two.orders

  -- The table between them, as the newest version has it.
  abbrev between : State
  between = raised mid.spool.state

  legal_between : IsLegal between
  legal_between = laws.raised_legal mid.spool.state two.turn.legal

  -- The second call starts no stage that the first one started or that was held.
  apart : (k : Key) → IsHeld old.spool.state old.slots k ⊎ IsAmong first_keys k → IsAmong later_keys k → ⊥
  apart k before among = either mid.spool.dead refl
    where
      either : (b : Bool) → mid.spool.dead ≡ b → ⊥
      either true died = subst (λ os. IsAmong (keys_in os) k) (two.after_over died).0 among
      either false alive = elim (one.turn.settled alive k before) [
        | inl held ↦ two.turn.outside k among held
        | inr gone ↦
            let reached = two.turn.reached k among in
            laws.either (after_all between reached.first) k (laws.legal between reached.first legal_between) reached.reached
            (laws.spent between k reached.first legal_between gone)
      ]

  -- If the device has not failed after the calls, it had not failed between them.
  lived : new.spool.dead ≡ false → (b : Bool) → mid.spool.dead ≡ b → mid.spool.dead ≡ false
  lived alive true died = absurd (both_ways _ alive (two.after_over died).1)
  lived alive false lives = lives

  all_keys : keys_in (one.orders ++ two.orders) ≡ first_keys ++ later_keys
  all_keys = map-append key_in one.orders two.orders

  of_all : (k : Key) → IsAmong (keys_in (one.orders ++ two.orders)) k → IsAmong first_keys k ⊎ IsAmong later_keys k
  of_all k among = among_either (keys_in one.orders) (keys_in two.orders) k (subst (λ l. IsAmong l k) all_keys among)

  -- A stage that was held, or started by the first call, is held or spent after both.
  settled_on : new.spool.dead ≡ false → (k : Key) → IsHeld old.spool.state old.slots k ⊎ IsAmong first_keys k → IsHeld new.spool.state new.slots k ⊎ IsSpent new.spool.state k
  settled_on alive k before = elim (one.turn.settled (lived alive mid.spool.dead refl) k before) [
    | inl held ↦ two.turn.settled alive k (inl held)
    | inr gone ↦ inr (subst (λ s. IsSpent s k) (sym two.turn.table) (laws.spent between k further legal_between gone))
  ]

  pub joined : IsStageCall t old (more ++ further) new
  joined = record {
    now = two.now;
    tells = two.tells;
    orders = one.orders ++ two.orders;
    added = two.added ∙ ap (λ l. l ++ two.orders) one.added ∙ append_assoc t.orders one.orders two.orders;
    turn = record {
      legal = one.turn.legal;
      accepted = accepted_both (raised old.spool.state) more further one.turn.accepted (subst (λ s. AreAccepted s further) one.turn.table two.turn.accepted);
      table = two.turn.table ∙ ap (λ s. after_all s further) one.turn.table ∙ sym (after_both (raised old.spool.state) more further);
      distinct = subst AreOnce (sym all_keys) (once_both (keys_in one.orders) (keys_in two.orders) one.turn.distinct two.turn.distinct (λ k first later. apart k (inr first) later));
      outside = λ k among held. elim (of_all k among) [
        | inl first ↦ one.turn.outside k first held
        | inr later ↦ apart k (inl held) later
      ];
      reached = λ k among. elim (of_all k among) [
        | inl first ↦ reached_sooner (raised old.spool.state) more further k (one.turn.reached k first)
        | inr later ↦ reached_later (raised old.spool.state) more further k (subst (λ s. IsReached s further k) one.turn.table (two.turn.reached k later))
      ];
      settled = λ alive k some. elim some [
        | inl held ↦ settled_on alive k (inl held)
        | inr among ↦ elim (of_all k among) [
          | inl first ↦ settled_on alive k (inr first)
          | inr later ↦ two.turn.settled alive k (inr later)
        ]
      ];
    };
    after_over = λ died.
        let first = one.after_over died in
        let later = two.after_over first.1 in
        (ap (λ l. l ++ two.orders) first.0 ∙ later.0, later.1);
  }
