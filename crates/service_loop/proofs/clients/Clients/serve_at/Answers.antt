-- The client of this slot had its turn, and stays or leaves. The number of clients that listen is kept.
use Rattle.std.proofs.Common.{◌≡◌, ◌≤◌, None, Some, ap, refl, sym, ◌∙◌, arith}
use Rattle.slab.specs.Slab.{get, with_value}
use Rattle.service_loop.specs.AdmissionViews.{is_listener}
use Rattle.service_loop.specs.ClientListening.{is_listened, one_if}
use Rattle.service_loop.proofs.ListenerCounts.{counted_then, few_then, itself_counted, not_starved}
use Rattle.service_loop.specs.ClientSlots.{HasNoneNow}
use Rattle.service_loop.proofs.PlaceLaws.{had_turn, has_gone, has_none_now, has_stayed, holds_there, updates_then, written}
use Rattle.service_loop.proofs.CallLaws.{goes_of}
use Rattle.service_loop.proofs.clients.Clients.serve_at.Goals as goal

pub overflow_sub-others : goal.overflow_sub-others
overflow_sub-others g c =
    let listened = ap is_listened (sym c.in_ok-client.ensures) ∙ sym c.is_listener.ensures in
    let mine : c.one_if.result ≡ one_if (is_listened (get c.args.self.now.slots c.args.key)) = c.one_if.ensures ∙ sym (ap one_if listened) in
    let least = itself_counted c.args.self.now.slots c.args.key 1000 c.requires.key in
    let counted = c.requires.counted in
    omega arith

pub returns-then-is_some-clause-turn : goal.returns-then-is_some-clause-turn
returns-then-is_some-clause-turn g c =
    let turn = c.serve-turn in
    let there = sym c.in_ok-client-2.ensures.value in
    had_turn _ _ _ _ _ c.in_ok-client-2.client.now turn.new.self turn.result.disconnect _ _ there (goes_of _ _ _ _ _ turn.ensures.calls) turn.ensures.client_step turn.ensures.leaves
    (has_gone _ _ _ c.in_ok-client-2.client.now turn.new.self turn.result.disconnect there (sym c.is_some.ensures ∙ c.if-is_some.true) c.try_remove.ensures.updates)

pub returns-then-is_some-clause-counted : goal.returns-then-is_some-clause-counted
returns-then-is_some-clause-counted g c =
    let listened = ap is_listened (sym c.in_ok-client.ensures) ∙ sym c.is_listener.ensures in
    let mine : c.one_if.result ≡ one_if (is_listened (get c.args.self.now.slots c.args.key)) = c.one_if.ensures ∙ sym (ap one_if listened) in
    let there = sym c.in_ok-client-2.ensures.value in
    let updates = updates_then c.args.self.now.slots (with_value c.args.self.now.slots c.args.key c.serve-turn.new.self) c.try_remove.new.self c.args.key (Some c.serve-turn.new.self) None
    (written c.args.self.now.slots c.args.key c.in_ok-client-2.client.now c.serve-turn.new.self there) c.try_remove.ensures.updates in
    let all = counted_then c.args.self.now.slots c.try_remove.new.self c.args.key c.args.self.now.listeners c.one_if.result 0 None c.requires.key c.requires.counted mine updates refl in
    omega arith

pub returns-then-is_listener-clause-turn : goal.returns-then-is_listener-clause-turn
returns-then-is_listener-clause-turn g c =
    let turn = c.serve-turn in
    let there = sym c.in_ok-client-2.ensures.value in
    had_turn _ _ _ _ _ c.in_ok-client-2.client.now turn.new.self turn.result.disconnect _ _ there (goes_of _ _ _ _ _ turn.ensures.calls) turn.ensures.client_step turn.ensures.leaves
    (has_stayed _ _ c.in_ok-client-2.client.now turn.new.self turn.result.disconnect there (sym c.is_some.ensures ∙ c.if-is_some.false))

pub returns-then-is_listener-clause-counted : goal.returns-then-is_listener-clause-counted
returns-then-is_listener-clause-counted g c =
    let listened = ap is_listened (sym c.in_ok-client.ensures) ∙ sym c.is_listener.ensures in
    let mine : c.one_if.result ≡ one_if (is_listened (get c.args.self.now.slots c.args.key)) = c.one_if.ensures ∙ sym (ap one_if listened) in
    let there = sym c.in_ok-client-2.ensures.value in
    let slots = c.args.self.now.slots in
    let new = c.serve-turn.new.self in
    let all = counted_then slots (with_value slots c.args.key new) c.args.key c.args.self.now.listeners c.one_if.result 1 (Some new) c.requires.key c.requires.counted mine
    (written slots c.args.key c.in_ok-client-2.client.now new there) (ap one_if (sym c.is_listener-else-is_some.ensures ∙ c.if-is_listener.true)) in
    omega arith

pub returns-else-is_listener-clause-turn : goal.returns-else-is_listener-clause-turn
returns-else-is_listener-clause-turn g c =
    let turn = c.serve-turn in
    let there = sym c.in_ok-client-2.ensures.value in
    had_turn _ _ _ _ _ c.in_ok-client-2.client.now turn.new.self turn.result.disconnect _ _ there (goes_of _ _ _ _ _ turn.ensures.calls) turn.ensures.client_step turn.ensures.leaves
    (has_stayed _ _ c.in_ok-client-2.client.now turn.new.self turn.result.disconnect there (sym c.is_some.ensures ∙ c.if-is_some.false))

pub returns-else-is_listener-clause-counted : goal.returns-else-is_listener-clause-counted
returns-else-is_listener-clause-counted g c =
    let listened = ap is_listened (sym c.in_ok-client.ensures) ∙ sym c.is_listener.ensures in
    let mine : c.one_if.result ≡ one_if (is_listened (get c.args.self.now.slots c.args.key)) = c.one_if.ensures ∙ sym (ap one_if listened) in
    let there = sym c.in_ok-client-2.ensures.value in
    let slots = c.args.self.now.slots in
    let new = c.serve-turn.new.self in
    let all = counted_then slots (with_value slots c.args.key new) c.args.key c.args.self.now.listeners c.one_if.result 0 (Some new) c.requires.key c.requires.counted mine
    (written slots c.args.key c.in_ok-client-2.client.now new there) (ap one_if (sym c.is_listener-else-is_some.ensures ∙ c.if-is_listener.false)) in
    omega arith

pub returns-then-is_listener-clause-few : goal.returns-then-is_listener-clause-few
returns-then-is_listener-clause-few g c = λ few.
    let listened = ap is_listened (sym c.in_ok-client.ensures) ∙ sym c.is_listener.ensures in
    let mine : c.one_if.result ≡ one_if (is_listened (get c.args.self.now.slots c.args.key)) = c.one_if.ensures ∙ sym (ap one_if listened) in
    let least = itself_counted c.args.self.now.slots c.args.key 1000 c.requires.key in
    let counted = c.requires.counted in
    let le : c.one_if.result ≤ c.args.self.now.listeners = omega arith in
    let was = ap is_listened (sym c.in_ok-client-2.ensures.value) in
    let begun = c.serve-turn.ensures.listens (not_starved c.serve-turn.result.disconnect (sym c.is_some.ensures ∙ c.if-is_some.false)) (sym c.is_listener-else-is_some.ensures ∙ c.if-is_listener.true) in
    few_then c.listening_of-listening.result c.args.self.now.places c.args.self.now.listeners c.one_if.result (is_listener c.in_ok-client-2.client.now)
    (ap (λ l. l.places) c.listening_of-listening.ensures) (ap (λ l. l.others) c.listening_of-listening.ensures) (mine ∙ ap one_if was) le begun few

pub returns-then-is_some-clause-rests : goal.returns-then-is_some-clause-rests
returns-then-is_some-clause-rests g c = λ none.
    let turn = c.serve-turn in
    let there = sym c.in_ok-client-2.ensures.value in
    holds_there HasNoneNow _ c.args.self.now.slots c.args.key turn.result.disconnect turn.new.self
    (has_gone _ _ _ c.in_ok-client-2.client.now turn.new.self turn.result.disconnect there (sym c.is_some.ensures ∙ c.if-is_some.true) c.try_remove.ensures.updates)
    (λ stays. has_none_now turn.new.shared.engine.run_state.spool.state turn.new.self (turn.ensures.rests stays none))

pub returns-then-is_listener-clause-rests : goal.returns-then-is_listener-clause-rests
returns-then-is_listener-clause-rests g c = λ none.
    let turn = c.serve-turn in
    let there = sym c.in_ok-client-2.ensures.value in
    holds_there HasNoneNow _ c.args.self.now.slots c.args.key turn.result.disconnect turn.new.self
    (has_stayed _ _ c.in_ok-client-2.client.now turn.new.self turn.result.disconnect there (sym c.is_some.ensures ∙ c.if-is_some.false))
    (λ stays. has_none_now turn.new.shared.engine.run_state.spool.state turn.new.self (turn.ensures.rests stays none))

pub returns-else-is_listener-clause-rests : goal.returns-else-is_listener-clause-rests
returns-else-is_listener-clause-rests g c = λ none.
    let turn = c.serve-turn in
    let there = sym c.in_ok-client-2.ensures.value in
    holds_there HasNoneNow _ c.args.self.now.slots c.args.key turn.result.disconnect turn.new.self
    (has_stayed _ _ c.in_ok-client-2.client.now turn.new.self turn.result.disconnect there (sym c.is_some.ensures ∙ c.if-is_some.false))
    (λ stays. has_none_now turn.new.shared.engine.run_state.spool.state turn.new.self (turn.ensures.rests stays none))
