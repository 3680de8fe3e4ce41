-- The slots above all keys are empty.
use Rattle.std.proofs.Common.{◌≡◌, ◌⊎◌, inl, inr, ℕ, ◌<◌, ◌≤◌, false, None, ap, arith}
use Rattle.slab.specs.Slab.{Slab, get}
use Rattle.service_loop.specs.AdmissionViews.{is_watched}
use Rattle.service_loop.specs.declared.client.Client.{Client}
use Rattle.service_loop.proofs.clients.Clients.watch.Goals as goal

none_watches : {L : Type 0} (slots : Slab (Client L)) (end key : ℕ) → ((k : ℕ) → k < end → is_watched (get slots k) ≡ false) → (end ≤ key → get slots key ≡ None) → is_watched (get slots key) ≡ false
none_watches {L} slots end key below none = by_place (place key end)
  where
    place : (a b : ℕ) → (a < b) ⊎ (b ≤ a)
    place a b = grind arith

    by_place : (key < end) ⊎ (end ≤ key) → is_watched (get slots key) ≡ false
    by_place (inl inside) = below key inside
    by_place (inr past) = ap is_watched (none past)

pub returns-clause-none : goal.returns-clause-none
returns-clause-none g c = λ over key lt. none_watches c.args.self.now.slots c.loop-key.key key c.loop-key.invariant (λ past. c.end_of_keys-end.ensures.none key (omega arith) lt)
