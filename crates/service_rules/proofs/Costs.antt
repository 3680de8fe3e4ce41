-- The cost of checkpoints that are made only when the previous one is paid for.
use Rattle.std.proofs.Common.{ℕ, ◌+◌, ◌-◌, ◌*◌, ◌≤◌, nat_le, List, [], ◌∷◌, IsTrue, arith}
use Rattle.std.proofs.lemmas.Bool.Decides.{nat_tests}
use Rattle.service_rules.specs.Checkpoints.{all_took, took, ArePaidFor}
use Rattle.service_rules.specs.declared.checkpoints.Checkpoint.{Checkpoint}

tenfold : (took behind : ℕ) → IsTrue (nat_le (10 * took) behind) → 10 * took ≤ behind
tenfold took behind paid = grind (arith, nat_tests)

pub cost_little : (c : Checkpoint) (later : List Checkpoint) (now : ℕ) → ArePaidFor (c ∷ later) now → c.began + 11 * all_took (c ∷ later) ≤ now
cost_little c [] now paid =
    let rest : 10 * took c ≤ now - c.ended = tenfold (took c) (now - c.ended) paid.2 in
    omega arith
cost_little c (d ∷ later) now paid =
    let rest : 10 * took c ≤ d.began - c.ended = tenfold (took c) (d.began - c.ended) paid.2 in
    let behind : d.began + 11 * all_took (d ∷ later) ≤ now = cost_little d later now paid.3 in
    omega arith
