-- The slots below this one had their turns, and at most one client left for each of them.
use Rattle.std.proofs.Common.{◌≡◌, ◌<◌, ◌≤◌, ℕ, false, IfSome}
use Rattle.slab.specs.Slab.{get}
use Rattle.service_rules.specs.Listeners.{most_listeners}
use Rattle.service_loop.specs.ClientListening.{listeners_below}
use Rattle.service_loop.specs.ClientSlots.{HasNoneNow, HaveTurns}
use Rattle.service_loop.specs.ServiceCalls.{GoesWithin}
use Rattle.service_loop.proofs.clients.Clients.serve_requests.Given as goal

abbrev pub invariant-loop-key : goal.invariant-loop-key
invariant-loop-key g l = record {
  starved : l.turns.starved ≤ l.key;
  turns : HaveTurns g.D.Disk.device g.L.Connection.view l.fn.shared.engine l.fn.self.slots l.key l.shared.engine l.self.slots;
  calls : GoesWithin g.D.Disk.device l.fn.shared.most l.fn.shared.engine l.shared.most l.shared.engine;
  counted : l.self.listeners ≡ listeners_below l.self.slots 1000;
  few : listeners_below l.fn.self.slots 1000 ≤ most_listeners l.fn.self.places → l.self.listeners ≤ most_listeners l.fn.self.places;
  places : l.self.places ≡ l.fn.self.places;
  rests : l.turns.more ≡ false → (key : ℕ) → key < l.key → IfSome (get l.self.slots key) HasNoneNow;
}
