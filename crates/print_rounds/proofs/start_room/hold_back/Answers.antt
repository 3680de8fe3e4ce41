use Rattle.std.proofs.Common.{inl, inr, false, ◌%◌, ◌≡◌, ◌<◌, true, refl, None, Some, length, get_or, arith, sym, ap, subst, ◌∙◌}
use Rattle.std.specs.FinMap as finite
use Rattle.std.proofs.lemmas.Bool.{cases_lt}
use Rattle.std.proofs.lemmas.Nat.{mod_below}
use Rattle.std.proofs.lemmas.List.{length-replicate}
use Rattle.print_rounds.specs.Passes.{unblocked}
use Rattle.print_rounds.specs.StartLimits.{AreChosen, can_start, opened_in}
use Rattle.print_rounds.specs.Turns.{AreInTurn, IsTurnAfter}
use Rattle.print_rounds.proofs.PlaceLaws.{all_chosen, all_closed, few_chosen, none_opened}
use Rattle.print_rounds.proofs.QueueTurns.{in_turn, kept_turn}
use Rattle.print_rounds.proofs.StartLaws.{queue_count}
use Rattle.print_rounds.proofs.start_room.hold_back.Goals as goal

pub returns-in_default-clause-chosen : goal.returns-in_default-clause-chosen
returns-in_default-clause-chosen g c =
    let s = c.args.table.now.state in
    let names = unblocked c.args.blocked.now.items (finite.keys s.queues) in
    subst (λ start_room. AreChosen start_room s c.args.runner.now names) (sym c.in_default.is) (all_chosen None s c.args.runner.now names c.requires.free tt)

pub returns-then-queues-start_room-clause-chosen : goal.returns-then-queues-start_room-clause-chosen
returns-then-queues-start_room-clause-chosen g c =
    let s = c.args.table.now.state in
    let p = c.in-Some.start_room in
    let names = unblocked c.args.blocked.now.items (finite.keys s.queues) in
    let count = queue_count c.queues-queues.result.now (finite.keys s.queues) c.queues-queues.ensures.names in
    subst (λ start_room. AreChosen start_room s c.args.runner.now names) (sym c.in-Some.is)
    (all_chosen (Some p) s c.args.runner.now names c.requires.free (omega (arith, c.if-queues-start_room.true, count)))

pub returns-clause-count : goal.returns-clause-count
returns-clause-count g c =
    let names = finite.keys c.args.table.now.state.queues in
    let count = queue_count c.queues-queues.result.now names c.queues-queues.ensures.names in
    let all : c.loop.counter ≡ length names = omega (arith, c.loop-test.false, c.loop.auto.counter-end, count) in
    ap (λ v. length v.items) c.swap.ensures.x_after
    ∙ c.open_some.ensures.count
    ∙ c.open_some-left.ensures.count
    ∙ ap length c.loop.invariant.flags
    ∙ length-replicate c.loop.counter true
    ∙ all

pub returns-clause-chosen : goal.returns-clause-chosen
returns-clause-chosen g c =
    let s = c.args.table.now.state in
    let p = c.in-Some.start_room in
    let names = finite.keys s.queues in
    let blocked = c.args.blocked.now.items in
    let closed = c.loop.spare.items in
    let last = c.open_some.new.closed.items in
    let count = queue_count c.queues-queues.result.now names c.queues-queues.ensures.names in
    let all : c.loop.counter ≡ length names = omega (arith, c.loop-test.false, c.loop.auto.counter-end, count) in
    let flags = c.loop.invariant.flags in
    let long : length last ≡ length names = c.open_some.ensures.count ∙ c.open_some-left.ensures.count ∙ ap length flags ∙ length-replicate c.loop.counter true ∙ all in
    let none : opened_in closed ≡ 0 = ap opened_in flags ∙ none_opened c.loop.counter in
    let first = c.open_some-left.ensures in
    let second = c.open_some.ensures in
    let left = c.saturating_sub-left.ensures in
    let waiting = c.count_waiting.ensures in
    let once = first.taken in
    let twice = second.taken in
    let less = second.less in
    let same = c.deref.ensures.value in
    let again = c.deref-2.ensures.value in
    let chosen : AreChosen (Some p) s c.args.runner.now (unblocked last names) = few_chosen p s c.args.runner.now blocked last c.open_some.result
    (omega (arith, c.if-queues-start_room.false, count)) c.requires.free c.requires.count long
    (λ i off. elim (second.start i off) [
      | inl early ↦ elim (first.start i early) [
        | inl never ↦ let both : true ≡ false = sym (ap (λ fs. get_or fs i true) flags ∙ all_closed c.loop.counter i) ∙ never in absurd (cc)
        | inr able ↦ ap (λ fs. can_start s fs i) (sym same) ∙ able
      ]
      | inr able ↦ ap (λ fs. can_start s fs i) (sym again) ∙ able
    ])
    (λ some i lt able. elim (cases_lt i (c.args.turn % length c.queues-queues.result.now)) [
      | inl low ↦ second.all some i (omega arith) low (ap (λ fs. can_start s fs i) again ∙ able)
      | inr high ↦ second.opened i (first.all (omega (arith, some, less)) i high (omega (arith, lt, count)) (ap (λ fs. can_start s fs i) same ∙ able))
    ])
    (omega (arith, none, once, twice, left, waiting)) in
    subst (λ start_room. AreChosen start_room s c.args.runner.now (unblocked c.swap.new.x.items names)) (sym c.in-Some.is)
    (subst (λ fs. AreChosen (Some p) s c.args.runner.now (unblocked fs names)) (sym (ap (λ v. v.items) c.swap.ensures.x_after)) chosen)

pub returns-in_default-clause-turn : goal.returns-in_default-clause-turn
returns-in_default-clause-turn g c = kept_turn c.args.turn c.args.table.now.state c.args.runner.now c.args.blocked.now.items c.requires.flags c.requires.count

pub returns-then-queues-start_room-clause-turn : goal.returns-then-queues-start_room-clause-turn
returns-then-queues-start_room-clause-turn g c = kept_turn c.args.turn c.args.table.now.state c.args.runner.now c.args.blocked.now.items c.requires.flags c.requires.count

pub returns-clause-turn : goal.returns-clause-turn
returns-clause-turn g c =
    let s = c.args.table.now.state in
    let names = finite.keys s.queues in
    let n = length c.queues-queues.result.now in
    let from = c.args.turn % n in
    let last = c.open_some.new.closed.items in
    let count = queue_count c.queues-queues.result.now names c.queues-queues.ensures.names in
    let all : c.loop.counter ≡ length names = omega (arith, c.loop-test.false, c.loop.auto.counter-end, count) in
    let flags = c.loop.invariant.flags in
    let long : length last ≡ length names = c.open_some.ensures.count ∙ c.open_some-left.ensures.count ∙ ap length flags ∙ length-replicate c.loop.counter true ∙ all in
    let first = c.open_some-left.ensures in
    let second = c.open_some.ensures in
    let same = c.deref.ensures.value ∙ c.requires.flags in
    let again = c.deref-2.ensures.value ∙ c.requires.flags in
    let after = ap (λ v. v.items) c.swap.ensures.x_after in
    let some : 0 < n = omega (arith, c.if-queues-start_room.false) in
    let chosen : AreInTurn c.args.turn c.turn_in.result s c.args.runner.now (unblocked last names) =
    in_turn n from c.args.turn c.turn_in-behind.result c.turn_in.result c.open_some-left.result s c.args.runner.now c.open_some-left.new.closed.items last count (mod_below c.args.turn n some) refl (long ∙ sym count)
    (λ i lt. first.before i lt ∙ ap (λ fs. get_or fs i true) flags ∙ all_closed c.loop.counter i)
    (λ i j low less high able. first.in_order i j low less high (ap (λ fs. can_start s fs j) same ∙ able))
    (λ left j low high able. first.all left j low high (ap (λ fs. can_start s fs j) same ∙ able))
    (λ i j less high able. second.in_order i j (omega arith) less high (ap (λ fs. can_start s fs j) again ∙ able))
    second.none second.behind
    (subst (λ fs. IsTurnAfter fs from n c.args.turn c.turn_in-behind.result) (c.deref-3.ensures.value ∙ after) c.turn_in-behind.ensures)
    (subst (λ fs. IsTurnAfter fs 0 from c.turn_in-behind.result c.turn_in.result) (c.deref-4.ensures.value ∙ after) c.turn_in.ensures) in
    subst (λ fs. AreInTurn c.args.turn c.turn_in.result s c.args.runner.now (unblocked fs names)) (sym after) chosen

pub turn_in-behind-requires-clause-order : goal.turn_in-behind-requires-clause-order
turn_in-behind-requires-clause-order g c =
    let n = length c.queues-queues.result.now in
    let below = mod_below c.args.turn n (omega (arith, c.if-queues-start_room.false)) in
    omega (arith, below)

pub open_some-left-requires-clause-order : goal.open_some-left-requires-clause-order
open_some-left-requires-clause-order g c =
    let n = length c.queues-queues.result.now in
    let below = mod_below c.args.turn n (omega (arith, c.if-queues-start_room.false)) in
    omega (arith, below)
