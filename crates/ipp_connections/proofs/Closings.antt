-- Whether a connection takes an answer.
use Rattle.std.proofs.Common.{◌≡◌, ◌↔◌, Bool, true, false, IsTrue, refl, ap, sym}
use Rattle.http1.specs.declared.conn.Writing.{Writing}
use Rattle.http1.specs.declared.conn.Writing.TheVariants as writes
use Rattle.ipp_connections.specs.ConnectionSteps.{is_closed_by}

pub closed_is : (b : Bool) (w : Writing) → IsTrue b ↔ (w ≡ writes.Closed) → b ≡ is_closed_by w
closed_is true w iff = sym (ap is_closed_by (iff.0 refl))
closed_is false writes.Head iff = refl
closed_is false (writes.Body encoder) iff = refl
closed_is false writes.Done iff = refl
closed_is false writes.Upgraded iff = refl
closed_is false writes.Closed iff = iff.1 refl
