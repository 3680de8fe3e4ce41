use Rattle.std.proofs.Common.{◌≡◌, ℕ, ◌+◌, ◌-◌, ◌<◌, ◌≤◌, false, nat_le, arith}
use Rattle.std.proofs.lemmas.Bool.Decides.{nat_tests}
use Rattle.service_rules.proofs.incoming.abandoned_jobs_are_found.Goals as goal

not_yet : (limit passed : ℕ) → passed < limit → nat_le limit passed ≡ false
not_yet limit passed less = grind (arith, nat_tests)

less_than : (limit passed : ℕ) → nat_le limit passed ≡ false → passed < limit
less_than limit passed not_so = grind (arith, nat_tests)

pub returns-clause-oldest : goal.returns-clause-oldest
returns-clause-oldest c limit now oldest since later older young before =
    let less : now - since < limit = less_than limit (now - since) young in
    not_yet (limit + 1000) (later - since) (omega arith)

pub returns-clause-left : goal.returns-clause-left
returns-clause-left c limit now since later some newer before = not_yet (limit + 1000) (later - since) (omega arith)
