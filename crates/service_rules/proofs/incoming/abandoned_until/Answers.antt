use Rattle.std.proofs.Common.{◌≡◌, ℕ, ◌-◌, ◌<◌, ◌≤◌, Bool, true, false, cond, nat_le, None, Some, refl, arith}
use Rattle.std.proofs.lemmas.Bool.Decides.{nat_tests}
use Rattle.service_rules.specs.Incoming.{abandoned_until, is_abandoned, is_until}
use Rattle.service_rules.proofs.incoming.abandoned_until.Goals as goal

by_test : (limit now since : ℕ) → 0 < limit → (b : Bool) → nat_le limit now ≡ b → is_until since (cond b (Some (now - limit)) None) ≡ nat_le limit (now - since)
by_test limit now since some true is = grind (arith, nat_tests)
by_test limit now since some false is = grind (arith, nat_tests)

until_is : (limit now since : ℕ) → 0 < limit → is_until since (abandoned_until limit now) ≡ is_abandoned limit since now
until_is limit now since some = by_test limit now since some (nat_le limit now) refl
