-- The slots below this one were notified, and at most one client left for each of them.
use Rattle.std.proofs.Common.{◌≡◌, ℕ, ◌<◌, ◌≤◌}
use Rattle.slab.specs.Slab.{get}
use Rattle.service_loop.specs.ClientSlots.{IsSlotNotified}
use Rattle.service_loop.specs.Progress.{news_for}
use Rattle.service_loop.proofs.clients.Clients.notify.Given as goal

abbrev pub invariant-loop-key : goal.invariant-loop-key
invariant-loop-key g l = record {
  starved : l.starved ≤ l.key;
  told : (key : ℕ) → key < l.key → IsSlotNotified (news_for l.table.state l.notes l.last) (get l.fn.self.slots key) (get l.self.slots key);
  others : (key : ℕ) → l.key ≤ key → get l.self.slots key ≡ get l.fn.self.slots key;
}
