-- Shares in percent.
use Rattle.std.proofs.Common.{ℕ, ◌*◌, ◌/◌, ◌<◌, arith}
use Rattle.std.proofs.lemmas.Nat.{div_below}

pub share_below : (sent size : ℕ) → sent < size → (sent * 100) / size < 101
share_below sent size lt = div_below (sent * 100) size 101 (omega arith) (omega arith)
