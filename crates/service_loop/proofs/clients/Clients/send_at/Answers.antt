-- The client of this slot had its turn, and stays or leaves. The number of clients that listen is kept.
use Rattle.std.proofs.Common.{◌≡◌, None, Some, ap, refl, sym, ◌∙◌, arith}
use Rattle.slab.specs.Slab.{get, with_value}
use Rattle.service_loop.specs.AdmissionViews.{is_listener}
use Rattle.service_loop.specs.ClientListening.{is_listened, one_if}
use Rattle.service_loop.specs.ClientSlots.{HasNoneNow}
use Rattle.service_loop.specs.Progress.{IsGiven}
use Rattle.service_loop.proofs.ListenerCounts.{counted_then, itself_counted}
use Rattle.service_loop.proofs.PlaceLaws.{had_turn, has_gone, has_stayed, holds_here, holds_there, updates_then, written}
use Rattle.service_loop.proofs.CallLaws.{goes_of}
use Rattle.service_loop.proofs.clients.Clients.send_at.Goals as goal

pub overflow_sub-self : goal.overflow_sub-self
overflow_sub-self g c =
    let there = sym c.in_ok-client.ensures.value in
    let mine : c.one_if-listens.result ≡ one_if (is_listened (get c.args.self.now.slots c.args.key)) = c.one_if-listens.ensures ∙ ap one_if (c.is_listener.ensures ∙ sym (ap is_listened there)) in
    let least = itself_counted c.args.self.now.slots c.args.key 1000 c.requires.key in
    let counted = c.requires.counted in
    omega arith

pub returns-then-is_some-clause-turn : goal.returns-then-is_some-clause-turn
returns-then-is_some-clause-turn g c =
    let sent = c.send-sending in
    let there = sym c.in_ok-client.ensures.value in
    had_turn _ _ _ _ _ c.in_ok-client.client.now sent.new.self sent.result.disconnect _ _ there (goes_of _ _ _ _ _ sent.ensures.calls) (λ here. sent.ensures.client_step) sent.ensures.leaves
    (has_gone _ _ _ c.in_ok-client.client.now sent.new.self sent.result.disconnect there (sym c.is_some.ensures ∙ c.if-is_some.true) c.try_remove.ensures.updates)

pub returns-then-is_some-clause-counted : goal.returns-then-is_some-clause-counted
returns-then-is_some-clause-counted g c =
    let there = sym c.in_ok-client.ensures.value in
    let mine : c.one_if-listens.result ≡ one_if (is_listened (get c.args.self.now.slots c.args.key)) = c.one_if-listens.ensures ∙ ap one_if (c.is_listener.ensures ∙ sym (ap is_listened there)) in
    let updates = updates_then c.args.self.now.slots (with_value c.args.self.now.slots c.args.key c.send-sending.new.self) c.try_remove.new.self c.args.key (Some c.send-sending.new.self) None
    (written c.args.self.now.slots c.args.key c.in_ok-client.client.now c.send-sending.new.self there) c.try_remove.ensures.updates in
    let all = counted_then c.args.self.now.slots c.try_remove.new.self c.args.key c.args.self.now.listeners c.one_if-listens.result 0 None c.requires.key c.requires.counted mine updates refl in
    omega arith

pub returns-then-is_some-clause-given : goal.returns-then-is_some-clause-given
returns-then-is_some-clause-given g c =
    let sent = c.send-sending in
    let there = sym c.in_ok-client.ensures.value in
    holds_there IsGiven _ c.args.self.now.slots c.args.key sent.result.disconnect sent.new.self
    (has_gone _ _ _ c.in_ok-client.client.now sent.new.self sent.result.disconnect there (sym c.is_some.ensures ∙ c.if-is_some.true) c.try_remove.ensures.updates) sent.ensures.given

pub returns-then-is_some-clause-rests : goal.returns-then-is_some-clause-rests
returns-then-is_some-clause-rests g c = λ none before.
    let sent = c.send-sending in
    let there = sym c.in_ok-client.ensures.value in
    holds_there HasNoneNow _ c.args.self.now.slots c.args.key sent.result.disconnect sent.new.self
    (has_gone _ _ _ c.in_ok-client.client.now sent.new.self sent.result.disconnect there (sym c.is_some.ensures ∙ c.if-is_some.true) c.try_remove.ensures.updates)
    (λ stays. sent.ensures.rests stays none (holds_here HasNoneNow c.args.self.now.slots c.args.key c.in_ok-client.client.now there before))

pub returns-else-is_some-clause-turn : goal.returns-else-is_some-clause-turn
returns-else-is_some-clause-turn g c =
    let sent = c.send-sending in
    let there = sym c.in_ok-client.ensures.value in
    had_turn _ _ _ _ _ c.in_ok-client.client.now sent.new.self sent.result.disconnect _ _ there (goes_of _ _ _ _ _ sent.ensures.calls) (λ here. sent.ensures.client_step) sent.ensures.leaves
    (has_stayed _ _ c.in_ok-client.client.now sent.new.self sent.result.disconnect there (sym c.is_some.ensures ∙ c.if-is_some.false))

pub returns-else-is_some-clause-counted : goal.returns-else-is_some-clause-counted
returns-else-is_some-clause-counted g c =
    let there = sym c.in_ok-client.ensures.value in
    let slots = c.args.self.now.slots in
    let new = c.send-sending.new.self in
    let was = ap is_listened there in
    let mine : one_if (is_listener c.in_ok-client.client.now) ≡ one_if (is_listened (get slots c.args.key)) = sym (ap one_if was) in
    let least = itself_counted slots c.args.key 1000 c.requires.key in
    let all = counted_then slots (with_value slots c.args.key new) c.args.key c.args.self.now.listeners (one_if (is_listener c.in_ok-client.client.now)) (one_if (is_listener c.in_ok-client.client.now)) (Some new) c.requires.key c.requires.counted mine
    (written slots c.args.key c.in_ok-client.client.now new there) (ap one_if c.send-sending.ensures.listens) in
    let counted = c.requires.counted in
    omega arith

pub returns-else-is_some-clause-given : goal.returns-else-is_some-clause-given
returns-else-is_some-clause-given g c =
    let sent = c.send-sending in
    let there = sym c.in_ok-client.ensures.value in
    holds_there IsGiven _ c.args.self.now.slots c.args.key sent.result.disconnect sent.new.self
    (has_stayed _ _ c.in_ok-client.client.now sent.new.self sent.result.disconnect there (sym c.is_some.ensures ∙ c.if-is_some.false)) sent.ensures.given

pub returns-else-is_some-clause-rests : goal.returns-else-is_some-clause-rests
returns-else-is_some-clause-rests g c = λ none before.
    let sent = c.send-sending in
    let there = sym c.in_ok-client.ensures.value in
    holds_there HasNoneNow _ c.args.self.now.slots c.args.key sent.result.disconnect sent.new.self
    (has_stayed _ _ c.in_ok-client.client.now sent.new.self sent.result.disconnect there (sym c.is_some.ensures ∙ c.if-is_some.false))
    (λ stays. sent.ensures.rests stays none (holds_here HasNoneNow c.args.self.now.slots c.args.key c.in_ok-client.client.now there before))
