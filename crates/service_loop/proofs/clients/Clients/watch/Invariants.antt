-- No client below this slot watches.
use Rattle.std.proofs.Common.{◌≡◌, ℕ, ◌<◌, false}
use Rattle.slab.specs.Slab.{get}
use Rattle.service_loop.specs.AdmissionViews.{is_watched}
use Rattle.service_loop.proofs.clients.Clients.watch.Given as goal

abbrev pub invariant-loop-key : goal.invariant-loop-key
invariant-loop-key g l = (key : ℕ) → key < l.key → is_watched (get l.self.slots key) ≡ false
