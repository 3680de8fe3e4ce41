-- A call that changes no version is one over the tables as the newest version has them.
use Rattle.std.proofs.Common.{◌≡◌, ◌⊎◌, Bool, false, List, [], ◌∷◌, ◌++◌, sym, ap, subst, ◌∙◌}
use Rattle.spool_types.specs.declared.event.Event.{Event}
use Rattle.spool_types.specs.State.{State}
use Rattle.job_table.specs.EventFold.{after_all, AreAccepted}
use Rattle.job_table.specs.Legal.{IsLegal}
use Rattle.job_table.specs.Stages.{Key, IsIn, IsSpent}
use Rattle.job_table.specs.Step.{after}
use Rattle.job_table.specs.TableCalls.{AreOnce, IsAmong, IsReached, IsTableCall}
use Rattle.job_table.specs.TableVersions.{raised}
use Rattle.print_rounds.proofs.HoldLaws.{Laws}

-- The first of some events that are accepted in order.
accepted_first : (s : State) (es fs : List Event) → AreAccepted s (es ++ fs) → AreAccepted s es
accepted_first s [] fs taken = tt
accepted_first s (e ∷ es) fs (first, others) = (first, accepted_first (after s e) es fs others)

-- The newest version has the same row.
in_raised : (s : State) (k : Key) → IsIn s k → IsIn (raised s) k
in_raised s k now = record { row = now.row; stages = now.stages; there = now.there; phase = now.phase }

module _ (laws : Laws) (s : State) (more : List Event) (taken : AreAccepted s more) where
  reached_raised : (k : Key) → IsReached s more k → IsReached (raised s) more k
  reached_raised k r = record {
    first = r.first;
    rest = r.rest;
    split = r.split;
    reached = subst (λ t. IsIn t k) (sym (laws.rises s r.first (accepted_first s r.first r.rest (subst (AreAccepted s) r.split taken))).1)
        (in_raised (after_all s r.first) k r.reached);
  }

  pub raised_turn : (Held : Key → Type 0) (keys : List Key) (s' : State) (Held' : Key → Type 0) (over : Bool) → IsLegal s → s' ≡ after_all s more → AreOnce keys
      → ((k : Key) → IsAmong keys k → ¬ (Held k)) → ((k : Key) → IsAmong keys k → IsReached s more k)
      → (over ≡ false → (k : Key) → Held k ⊎ IsAmong keys k → Held' k ⊎ IsSpent s' k) → IsTableCall s Held more keys s' Held' over
  raised_turn Held keys s' Held' over legal table distinct outside reached settled =
      let risen = laws.rises s more taken in
      record {
        legal = legal;
        accepted = risen.0;
        table = ap raised table ∙ sym risen.1;
        distinct = distinct;
        outside = outside;
        reached = λ k among. reached_raised k (reached k among);
        settled = settled;
      }
