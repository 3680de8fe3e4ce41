-- When the end of a child is seen.
use Rattle.std.proofs.Common.{◌≡◌, ℕ, ◌+◌, ◌-◌, ◌/◌, ◌≤◌, min, max, Bool, true, false, cond, nat_lt, refl, arith}
use Rattle.std.proofs.lemmas.Bool.Decides.{nat_tests}
use Rattle.service_rules.specs.Bounds.{first_look, last_look, look_parts}
use Rattle.service_rules.specs.ChildPolling.{first_after, pause_alone, pause_of}

pub ends_beside : (youngest ran all : ℕ) → youngest ≤ ran → ran ≤ all
    → ran + pause_of youngest ≤ all + max first_look (min (all / look_parts) last_look)
ends_beside youngest ran all younger before = omega arith

pub ends_alone : (before ran all : ℕ) → ran ≤ all
    → ran + pause_alone before ran ≤ max (first_after before) (all + max first_look (min (all / look_parts) last_look))
ends_alone before ran all within = either (nat_lt ran (first_after before)) refl
  where
    either : (b : Bool) → nat_lt ran (first_after before) ≡ b
        → ran + cond b (max first_look (first_after before - ran)) (pause_of ran) ≤ max (first_after before) (all + max first_look (min (all / look_parts) last_look))
    either true is = grind (arith, nat_tests)
    either false is = omega arith
