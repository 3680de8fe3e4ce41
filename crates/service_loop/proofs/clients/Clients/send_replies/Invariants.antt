-- The slots below this one had their turns.
use Rattle.std.proofs.Common.{◌≡◌, ◌<◌, ◌≤◌, ℕ, false, IfSome}
use Rattle.slab.specs.Slab.{get}
use Rattle.service_loop.specs.ClientListening.{listeners_below}
use Rattle.service_loop.specs.ClientSlots.{HasNoneNow, HaveTurns}
use Rattle.service_loop.specs.Progress.{IsGiven}
use Rattle.service_loop.specs.ServiceCalls.{GoesWithin}
use Rattle.service_loop.proofs.clients.Clients.send_replies.Given as goal

abbrev pub invariant-loop-key : goal.invariant-loop-key
invariant-loop-key g l = record {
  turns : HaveTurns g.D.Disk.device g.L.Connection.view l.fn.shared.engine l.fn.self.slots l.key l.shared.engine l.self.slots;
  calls : GoesWithin g.D.Disk.device l.fn.shared.most l.fn.shared.engine l.shared.most l.shared.engine;
  given : (key : ℕ) → key < l.key → IfSome (get l.self.slots key) IsGiven;
  counted : l.self.listeners ≡ listeners_below l.self.slots 1000;
  few : l.self.listeners ≤ l.fn.self.listeners;
  places : l.self.places ≡ l.fn.self.places;
  rests : l.more ≡ false → ((key : ℕ) → key < 1000 → IfSome (get l.fn.self.slots key) HasNoneNow) → (key : ℕ) → key < l.key → IfSome (get l.self.slots key) HasNoneNow;
}
