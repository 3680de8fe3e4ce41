-- How long a wait of the loop is at most.
use Rattle.std.proofs.Common.{◌≡◌, ◌⊎◌, inl, inr, ℕ, ◌-◌, ◌*◌, ◌^◌, ◌/◌, ◌%◌, ◌<◌, ◌≤◌, Bool, true, false, cond, Option, None, Some, refl, ap, sym, ◌∙◌, subst, arith}
use Rattle.std.specs.Prelude.{min}
use Rattle.std.specs.Option.{option_map}
use Rattle.std.proofs.lemmas.Bool.{le-leb, lt-leb}
use Rattle.spool_types.specs.Limits.{greatest_moment}
use Rattle.spool_types.specs.State.{State}
use Rattle.service_rules.specs.Bounds.{millisecond}
use Rattle.service_rules.specs.Clocks.{clock_wait}
use Rattle.service_loop.specs.Due.{clocks_of}
use Rattle.service_loop.specs.LoopWaits.{clock_bound, maintenance_wait}
use Rattle.service_loop.specs.declared.maintenance.Maintenance.{Maintenance}

-- What a wait of maintenance is at each time of the clock.
pub maintenance_wait_by : (m : Maintenance) (active : Bool) (s : State) (millis : ℕ) (wait : Option ℕ) → (active ≡ true → wait ≡ Some (1000 - millis % 1000)) →
    (active ≡ false → millis / 1000 ≤ greatest_moment → wait ≡ clock_wait (clocks_of m s (millis / 1000)) m.due (millis % 1000)) → (active ≡ false → greatest_moment < millis / 1000 → wait ≡ None) →
    wait ≡ maintenance_wait m active s millis
maintenance_wait_by m true s millis wait on due never = on refl
maintenance_wait_by m false s millis wait on due never = by_second (place (millis / 1000) greatest_moment)
  where
    place : (a b : ℕ) → (a ≤ b) ⊎ (b < a)
    place a b = grind arith

    by_second : (millis / 1000 ≤ greatest_moment) ⊎ (greatest_moment < millis / 1000) → wait ≡ maintenance_wait m false s millis
    by_second (inl le) =
        due refl le ∙ sym (ap (λ (b : Bool). cond b (clock_wait (clocks_of m s (millis / 1000)) m.due (millis % 1000)) None) (le-leb (millis / 1000) greatest_moment le))
    by_second (inr lt) =
        never refl lt ∙ sym (ap (λ (b : Bool). cond b (clock_wait (clocks_of m s (millis / 1000)) m.due (millis % 1000)) None) (lt-leb (millis / 1000) greatest_moment lt))

-- The same in microseconds, for the time that the clock has reported.
pub clock_bound_by : (m : Maintenance) (active : Bool) (s : State) (millis : ℕ) (wait micros last : Option ℕ) → last ≡ Some millis → wait ≡ maintenance_wait m active s millis →
    micros ≡ option_map (λ w. min (w * millisecond) (2 ^ 64 - 1)) wait → micros ≡ clock_bound m active s last
clock_bound_by m active s millis wait micros last told waits is =
    subst (λ (l : Option ℕ). micros ≡ clock_bound m active s l) (sym told) (is ∙ ap (option_map (λ (w : ℕ). min (w * millisecond) (2 ^ 64 - 1))) waits)
