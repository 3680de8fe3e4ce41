-- The calls of one engine are the calls of a life, and engines over many lives form a StageHistory.
use Rattle.std.proofs.Common.{◌≡◌, List, [], ◌∷◌, ◌++◌, Some, refl, sym, ap, subst, ◌∙◌}
use Rattle.std.specs.FinMap as finite
use Rattle.spool_disk.specs.Disk.{DiskView}
use Rattle.spool_types.specs.declared.event.Event.{Event}
use Rattle.spool_types.specs.State.{State}
use Rattle.job_table.specs.Attempts.{HasNoProcessing}
use Rattle.job_table.specs.EventFold.{after_all}
use Rattle.job_table.specs.Legal.{IsLegal}
use Rattle.job_table.specs.TableCalls.{AreOnce}
use Rattle.job_table.specs.TableVersions.{raised}
use Rattle.child_pipeline.specs.ChildTraces.{ChildTrace}
use Rattle.child_pipeline.specs.declared.order.Placed.{Placed}
use Rattle.print_rounds.specs.RunStates.{RunState}
use Rattle.print_rounds.specs.StageLives.{Life, IsLife, IsStageHistory, AreLives, end_of, keys_of, keys_of_life, AreStageCalls, life_of, last_left}
use Rattle.print_rounds.specs.StageHistory.{keys_in}
use Rattle.spool_engine.specs.EngineCalls.{Call, left_by, AreCalls, last_by}
use Rattle.spool_engine.specs.EventSteps.{Setting, setting}
use Rattle.spool_engine.specs.EngineLives.{EngineLife, last_of, IsEngineLife, AreEngineLives, IsEngineHistory, keys_told}
use Rattle.spool_engine.proofs.SettleLaws.{empty_rests, no_tickets}
use Rattle.spool_engine.proofs.StageHistoryLaws.{Laws, IsTold, call_turn, legal_then}

-- Calls of a StageHistory that end in this run state.
abbrev IsTurnedTo : {D : Type 0} → ChildTrace → RunState D → RunState D → Type 0
IsTurnedTo {D} t s last = (steps : List (List Event × RunState D)) × AreStageCalls t s steps × (last_left s steps ≡ last)

-- The same for at least one call.
abbrev IsOneTurnedTo : {D : Type 0} → ChildTrace → RunState D → RunState D → Type 0
IsOneTurnedTo {D} t s last = (c : List Event × RunState D) × (cs : List (List Event × RunState D)) × AreStageCalls t s (c ∷ cs) × (last_left c.1 cs ≡ last)

-- The laws of calls that form a life, and of StageHistories.
pub record LifeLaws (D : Type 0) : Type 0 where
  pub turns : Laws D
  pub life : (t : ChildTrace) (old : RunState D) (c : List Event × RunState D) (cs : List (List Event × RunState D)) (calls : AreStageCalls t old (c ∷ cs)) →
      HasNoProcessing old.spool.state → old.slots ≡ finite.empty → IsLife (life_of t old c cs calls)
  pub end : (t : ChildTrace) (old : RunState D) (c : List Event × RunState D) (cs : List (List Event × RunState D)) (calls : AreStageCalls t old (c ∷ cs)) →
      end_of (life_of t old c cs calls) ≡ (last_left c.1 cs).spool.state
  pub keys : (t : ChildTrace) (old : RunState D) (c : List Event × RunState D) (cs : List (List Event × RunState D)) (calls : AreStageCalls t old (c ∷ cs)) → old.told ≡ Some t →
      (now : ChildTrace) (orders : List Placed) → (last_left c.1 cs).told ≡ Some now → now.orders ≡ t.orders ++ orders → keys_of_life (life_of t old c cs calls) ≡ keys_in orders
  pub once : (lives : List Life) → IsStageHistory lives → AreOnce (keys_of lives)

module _ {D : Type 0} (laws : LifeLaws D) where
  engine_turns : (v : Setting D) (cs : List (Call D)) (t : ChildTrace) (s : RunState D) → IsLegal s.spool.state → IsTold t s → AreCalls v s cs → IsTurnedTo t s (last_by s cs)
  engine_turns v [] t s legal tells are = ([], tt, refl)
  engine_turns v (c ∷ cs) t s legal tells (first, others) =
      let one = call_turn laws.turns v t s c legal tells first in
      let rest = engine_turns v cs one.1.now (left_by s c) (legal_then laws.turns t s (left_by s c) one.0 one.1) (one.1.tells, one.2) others in
      ((one.0, left_by s c) ∷ rest.0, (one.1, rest.1), rest.2)

  first_turns : (v : Setting D) (c : Call D) (cs : List (Call D)) (t : ChildTrace) (s : RunState D) → IsLegal s.spool.state → IsTold t s → AreCalls v s (c ∷ cs) → IsOneTurnedTo t s (last_by s (c ∷ cs))
  first_turns v c cs t s legal tells (first, others) =
      let one = call_turn laws.turns v t s c legal tells first in
      let rest = engine_turns v cs one.1.now (left_by s c) (legal_then laws.turns t s (left_by s c) one.0 one.1) (one.1.tells, one.2) others in
      ((one.0, left_by s c), rest.0, (one.1, rest.1), rest.2)

  -- An engine's life as a life of stages.
  as_life : (device : DiskView D) (l : EngineLife D) → IsEngineLife device l → (m : Life) × IsLife m × ((m.first).table ≡ (l.start).spool.state) × (end_of m ≡ (last_of l).spool.state) × (keys_of_life m ≡ keys_in l.orders)
  as_life device l is =
      let (c, cs, calls, last) = first_turns (setting device l.mime l.place) l.first l.later l.told l.start is.legal (is.tells, no_tickets (l.start).slots l.told (empty_rests (l.start).slots is.empty) is.quiet) is.calls in (
        life_of l.told l.start c cs calls,
        laws.life l.told l.start c cs calls is.idle is.empty,
        refl,
        laws.end l.told l.start c cs calls ∙ ap (λ (x : RunState D). x.spool.state) last,
        laws.keys l.told l.start c cs calls is.tells is.now l.orders (ap (λ (x : RunState D). x.told) last ∙ is.tells_then) is.added,
      )

  as_lives : (device : DiskView D) (ls : List (EngineLife D)) (s u : State) → u ≡ s → AreEngineLives device s ls → (ms : List Life) × AreLives u ms × (keys_of ms ≡ keys_told ls)
  as_lives device [] s u same are = ([], tt, refl)
  as_lives device (l ∷ ls) s u same (is, further, others) =
      let (m, life, table, end, keys) = as_life device l is in
      let (ms, lives, rest) = as_lives device ls (last_of l).spool.state (end_of m) end others in (
        m ∷ ms,
        (life, (further.0, ap raised table ∙ further.1 ∙ ap (λ w. after_all (raised w) further.0) (sym same)), lives),
        ap (λ k. k ++ keys_of ms) keys ∙ ap (λ k. keys_in l.orders ++ k) rest,
      )

  pub engines_once : (device : DiskView D) (ls : List (EngineLife D)) → IsEngineHistory device ls → AreOnce (keys_told ls)
  engines_once device [] world = tt
  engines_once device (l ∷ ls) (is, others) =
      let (m, life, table, end, keys) = as_life device l is in
      let (ms, lives, rest) = as_lives device ls (last_of l).spool.state (end_of m) end others in
      subst AreOnce (ap (λ k. k ++ keys_of ms) keys ∙ ap (λ k. keys_in l.orders ++ k) rest) (laws.once (m ∷ ms) (life, lives))
