-- The work that a turn of the loop leaves.
use Rattle.std.proofs.Common.{◌≡◌, ℕ, ◌-◌, ◌/◌, Bool, true, false, cond, ◌||◌, List, ◌∷◌, Option, None, Some, length, refl, ap, sym, subst, ◌∙◌, arith}
use Rattle.std.specs.Prelude.{IfSome}
use Rattle.spool_types.specs.State.{State}
use Rattle.spool_disk.specs.Disk.{DiskView}
use Rattle.spool_engine.specs.EventSteps.{setting}
use Rattle.spool_engine.specs.EngineRuns.{Engine}
use Rattle.spool_engine.specs.EngineTicks.{Ticked}
use Rattle.spool_engine.specs.StagedSteps.{IsStagingTick}
use Rattle.service_rules.specs.Clocks.{clock_to_announce}
use Rattle.service_loop.specs.ServiceCalls.{GoesByCalls}
use Rattle.service_loop.specs.ServiceTurns.{HasTicked, IsTimely, KeepsTime, has_moved}
use Rattle.service_loop.specs.declared.maintenance.Maintenance.{Maintenance}

-- One of several jobs is purged: the count falls by one, and one less is left.
pub counts_next : (ended now all : ℕ) (old rest : List ℕ) (job : ℕ) → now ≡ ended - 1 → old ≡ job ∷ rest → ended - length old ≡ all → now - length rest ≡ all
counts_next ended now all old rest job less is so_far = omega (arith, less, ap length is, so_far)

neither : (a b : Bool) → (a || b) ≡ false → (a ≡ false) × (b ≡ false)
neither true b is = (is, ap (λ x. cond x b false) is)
neither false b is = (refl, is)

-- If there is no reason for more, neither the tick nor maintenance is one.
pub no_reason : (more served ticked kept fresh has_new_client : Bool) → (more || (served || (ticked || (kept || (fresh || has_new_client))))) ≡ false → (ticked ≡ false) × (kept ≡ false)
no_reason more served ticked kept fresh has_new_client is =
    let others = (neither more (served || (ticked || (kept || (fresh || has_new_client)))) is).1 in
    let both = neither ticked (kept || (fresh || has_new_client)) (neither served (ticked || (kept || (fresh || has_new_client))) others).1 in
    (both.0, (neither kept (fresh || has_new_client) both.1).0)

-- `IsTimely` depends only on what maintenance knows of the time.
timely_as : (h h1 : Maintenance) (s : State) (last : Option ℕ) → h1.told ≡ h.told → h1.due ≡ h.due → IsTimely h s last → IsTimely h1 s last
timely_as h h1 s None told due is = tt
timely_as h h1 s (Some millis) told due is =
    λ within. ap clock_to_announce (λ i. record { system = millis / 1000; table = s.moment; told = told i; due = due i }) ∙ is within

module _ {D : Type 0} (device : DiskView D) where
  -- An engine that ticked, and then did not change.
  pub ticked_by : (e e1 e2 : Engine D) (t : Ticked D) (moved : Bool) → e1.mime ≡ e.mime → e1.place ≡ e.place → IsStagingTick (setting device e.mime e.place) e.run_state t
      → t.next ≡ e1.run_state → moved ≡ has_moved t.result → e2 ≡ e1 → HasTicked device e moved e2
  ticked_by e e1 e2 t moved mime place is next has same =
      subst (λ (x : Engine D). HasTicked device e moved x) (sym same) (record { mime = mime; place = place; ticked = t; is = is; next = next; moved = sym has })

  -- The time was sent, and later commands leave what maintenance knows of it.
  pub keeps_time : (e e1 e2 : Engine D) (h h1 : Maintenance) (told told1 : Option (Option ℕ)) → told1 ≡ told → h1.told ≡ h.told → h1.due ≡ h.due
      → GoesByCalls device e e1 → IfSome told (λ last. IsTimely h e1.run_state.spool.state last) → GoesByCalls device e1 e2 → KeepsTime device e h1 told1 e2
  keeps_time e e1 e2 h h1 None told1 same told due time timely others = subst (λ t. KeepsTime device e h1 t e2) (sym same) tt
  keeps_time e e1 e2 h h1 (Some last) told1 same told due time timely others =
      subst (λ t. KeepsTime device e h1 t e2) (sym same)
      (record { between = e1; time = time; timely = timely_as h h1 e1.run_state.spool.state last told due timely; others = others })
