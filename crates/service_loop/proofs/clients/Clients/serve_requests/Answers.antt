-- The slots had their turns in order.
use Rattle.std.proofs.Common.{◌≡◌, ◌+◌, ◌<◌, ◌≤◌, None, ◌||◌, ℕ, Bool, true, false, cond, ap, refl, sym, ◌∙◌, subst, arith}
use Rattle.slab.specs.Slab.{get}
use Rattle.service_rules.specs.Listeners.{most_listeners}
use Rattle.service_loop.specs.ClientSlots.{HasNoneNow, leaves_more}
use Rattle.service_loop.specs.ClientSteps.{is_starved}
use Rattle.service_loop.specs.declared.clients.Turns.{Turns}
use Rattle.service_loop.proofs.CallLaws.{within_none, within_then}
use Rattle.service_loop.proofs.PlaceLaws.{each_more, each_of_all, none_yet, one_more, rest_turns, untouched}
use Rattle.service_loop.proofs.clients.Clients.serve_requests.Goals as goal
use Rattle.service_loop.proofs.clients.Clients.serve_requests.Goals.{in-Some, in_default}

pub loop-key-init : goal.loop-key-init
loop-key-init g c = record {
  starved = let none = ap (λ (t : Turns). t.starved) c.requires in omega arith;
  turns = none_yet _ _ _ _;
  calls = within_none _ _ _;
  counted = c.count_listeners-self.ensures;
  few = λ few. subst (λ (n : ℕ). n ≤ most_listeners c.args.self.now.places) (sym c.count_listeners-self.ensures) few;
  places = refl;
  rests = λ none key lt. absurd (omega arith);
}

kept_few : (before now places first : ℕ) → places ≡ first → (before ≤ most_listeners places → now ≤ most_listeners places) → before ≤ most_listeners first → now ≤ most_listeners first
kept_few before now places first same kept few = subst (λ (p : ℕ). now ≤ most_listeners p) same (kept (subst (λ (p : ℕ). before ≤ most_listeners p) (sym same) few))

one_went : (old new : ℕ) (starved : Bool) → new ≡ cond starved (old + 1) old → new ≤ old + 1
one_went old new true e = omega arith
one_went old new false e = omega arith

neither : (a b : Bool) → (a || b) ≡ false → (a ≡ false) × (b ≡ false)
neither false false none = (refl, refl)
neither false true none = cc
neither true b none = cc

pub loop-key-preserved : goal.loop-key-preserved
loop-key-preserved g c =
    let so_far = c.loop-key.invariant in
    let turn = c.serve_at.ensures.turn in
    record {
      starved = elim c.match-serve_at.branch [
        | in-Some w ↦ rw w.turns-is (let more = one_went _ _ (is_starved w.in-Some.turn.disconnect) (ap (λ (t : Turns). t.starved) w.add.ensures) in omega arith)
        | in_default w ↦ rw w.turns-is (omega arith)
      ];
      turns = one_more _ _ _ _ _ _ _ _ _ _ so_far.turns turn;
      calls = within_then _ _ _ _ _ _ _ so_far.calls c.serve_at.ensures.calls;
      counted = c.serve_at.ensures.counted;
      few = λ few. kept_few c.loop-key.self.listeners c.serve_at.new.self.listeners c.loop-key.self.places c.args.self.now.places so_far.places c.serve_at.ensures.few (so_far.few few);
      places = c.serve_at.ensures.places ∙ so_far.places;
      rests = λ none.
          let quiet : (c.loop-key.turns.more ≡ false) × (leaves_more c.serve_at.result ≡ false) =
          elim c.match-serve_at.branch [
            | in-Some w ↦ (
                let both = neither c.loop-key.turns.more w.in-Some.turn.more (sym (ap (λ (t : Turns). t.more) (w.turns-is ∙ w.add.ensures)) ∙ none) in
                (both.0, ap leaves_more w.in-Some.is ∙ both.1)
                )
            | in_default w ↦ (sym (ap (λ (t : Turns). t.more) w.turns-is) ∙ none, ap leaves_more w.in_default.is)
          ] in
          each_more HasNoneNow c.loop-key.self.slots c.serve_at.new.self.slots c.loop-key.key turn.others (so_far.rests quiet.0) (c.serve_at.ensures.rests quiet.1);
    }

pub returns-clause-turns : goal.returns-clause-turns
returns-clause-turns g c =
    let end = c.loop-key.key in
    let none : (k : ℕ) → end ≤ k → k < 1000 → get c.args.self.now.slots k ≡ None = λ k from to. c.end_of_keys-end.ensures.none k (omega arith) to in
    rest_turns g.D.Disk.device g.L.Connection.view _ _ end _ _ 1000 (omega arith)
    (λ key from to. untouched g.D.Disk.device g.L.Connection.view _ _ end _ _ c.loop-key.invariant.turns key from ∙ none key from to) c.loop-key.invariant.turns

pub returns-clause-calls : goal.returns-clause-calls
returns-clause-calls g c = c.loop-key.invariant.calls

pub returns-clause-rests : goal.returns-clause-rests
returns-clause-rests g c = λ none.
    let end = c.loop-key.key in
    each_of_all HasNoneNow c.loop-key.self.slots end 1000
    (λ key from to. untouched g.D.Disk.device g.L.Connection.view _ _ end _ _ c.loop-key.invariant.turns key from ∙ c.end_of_keys-end.ensures.none key (omega arith) to) (c.loop-key.invariant.rests none)

pub returns-clause-few : goal.returns-clause-few
returns-clause-few g c = λ few. c.loop-key.invariant.few few
