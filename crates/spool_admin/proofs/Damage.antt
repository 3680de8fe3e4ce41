-- Bytes that have a table are not damaged.
use Rattle.std.proofs.Common.{ℕ, List}
use Rattle.spool_types.specs.State.{State}
use Rattle.spool_areas.specs.Payloads.{IsTornAfter}
use Rattle.spool_areas.proofs.AreaLaws.{whole_or_torn}
use Rattle.spool_core.specs.Image.{HasTable}

-- Bytes with a table have no record that exceeds its area.
pub untorn : (table : State) (r : List ℕ) (base : ℕ) (payloads : List (List ℕ)) → HasTable table r → IsTornAfter base payloads r → ⊥
untorn table r base payloads has torn = whole_or_torn has.base base r has.payloads payloads has.area torn
