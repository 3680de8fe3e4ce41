-- The slots had their turns in order, and each client that stays was sent what its connection takes.
use Rattle.std.proofs.Common.{◌≡◌, ◌<◌, ◌≤◌, None, ℕ, false, IfSome, ap, refl, sym, ◌∙◌, subst, arith}
use Rattle.slab.specs.Slab.{get}
use Rattle.service_loop.specs.ClientSlots.{HasNoneNow, goes_on}
use Rattle.service_loop.specs.Progress.{IsGiven}
use Rattle.service_loop.proofs.CallLaws.{within_none, within_then}
use Rattle.service_loop.proofs.PlaceLaws.{each_more, each_of_all, none_yet, one_more, rest_turns, untouched}
use Rattle.service_loop.proofs.ProgressLaws.{neither}
use Rattle.service_loop.proofs.clients.Clients.send_replies.Goals as goal
use Rattle.service_loop.proofs.clients.Clients.send_replies.Goals.{in-Some, in_default}

pub loop-key-init : goal.loop-key-init
loop-key-init g c = record {
  turns = none_yet _ _ _ _;
  calls = within_none _ _ _;
  given = λ key lt. absurd (omega arith);
  counted = c.requires.counted;
  few = omega arith;
  places = refl;
  rests = λ none all key lt. absurd (omega arith);
}

pub loop-key-preserved : goal.loop-key-preserved
loop-key-preserved g c =
    let so_far = c.loop-key.invariant in
    let turn = c.send_at.ensures.turn in
    let key = c.loop-key.key in
    let before = untouched g.D.Disk.device g.L.Connection.view _ _ key _ _ so_far.turns key (omega arith) in
    record {
      turns = one_more _ _ _ _ _ _ _ _ _ _ so_far.turns turn;
      calls = within_then _ _ _ _ _ _ _ so_far.calls c.send_at.ensures.calls;
      given = each_more IsGiven c.loop-key.self.slots c.send_at.new.self.slots key turn.others so_far.given c.send_at.ensures.given;
      counted = c.send_at.ensures.counted;
      few = let one = so_far.few in let two = c.send_at.ensures.few in omega arith;
      places = c.send_at.ensures.places ∙ so_far.places;
      rests = λ none all.
          let quiet : (c.loop-key.more ≡ false) × (goes_on c.send_at.result ≡ false) =
          elim c.match-send_at.branch [
            | in-Some w ↦ (
                let both = neither c.loop-key.more w.in-Some.sending.more (sym (w.more-is ∙ w.either-more.ensures) ∙ none) in
                (both.0, ap goes_on w.in-Some.is ∙ both.1)
                )
            | in_default w ↦ (sym w.more-is ∙ none, ap goes_on w.in_default.is)
          ] in
          let here : IfSome (get c.loop-key.self.slots key) HasNoneNow = subst (λ (slot : _). IfSome slot HasNoneNow) (sym before) (all key (omega arith)) in
          each_more HasNoneNow c.loop-key.self.slots c.send_at.new.self.slots key turn.others (so_far.rests quiet.0 all) (c.send_at.ensures.rests quiet.1 here);
    }

pub returns-clause-turns : goal.returns-clause-turns
returns-clause-turns g c =
    let end = c.loop-key.key in
    let none : (k : ℕ) → end ≤ k → k < 1000 → get c.args.self.now.slots k ≡ None = λ k from to. c.end_of_keys-end.ensures.none k (omega arith) to in
    rest_turns g.D.Disk.device g.L.Connection.view _ _ end _ _ 1000 (omega arith)
    (λ key from to. untouched g.D.Disk.device g.L.Connection.view _ _ end _ _ c.loop-key.invariant.turns key from ∙ none key from to) c.loop-key.invariant.turns

pub returns-clause-calls : goal.returns-clause-calls
returns-clause-calls g c = c.loop-key.invariant.calls

pub returns-clause-given : goal.returns-clause-given
returns-clause-given g c =
    let end = c.loop-key.key in
    each_of_all IsGiven c.loop-key.self.slots end 1000
    (λ key from to. untouched g.D.Disk.device g.L.Connection.view _ _ end _ _ c.loop-key.invariant.turns key from ∙ c.end_of_keys-end.ensures.none key (omega arith) to) c.loop-key.invariant.given

pub returns-clause-rests : goal.returns-clause-rests
returns-clause-rests g c = λ none all.
    let end = c.loop-key.key in
    each_of_all HasNoneNow c.loop-key.self.slots end 1000
    (λ key from to. untouched g.D.Disk.device g.L.Connection.view _ _ end _ _ c.loop-key.invariant.turns key from ∙ c.end_of_keys-end.ensures.none key (omega arith) to) (c.loop-key.invariant.rests none all)
