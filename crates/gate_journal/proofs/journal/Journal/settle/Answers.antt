use Rattle.std.proofs.Common.{rules, ℕ, Option, ◌∙◌, ap, sym, subst, refl, arith}
use Rattle.gate_journal.specs.Staged.{shown, KeepsStaged}
use Rattle.gate_journal.specs.Stages.{ChangesGate}
use Rattle.gate_journal.proofs.Staging.{settled_none, stays_before, shown_none, no_gate}
use Rattle.gate_journal.proofs.journal.Journal.settle.Goals as goal

pub returns-in-None : goal.returns-in-None
returns-in-None g c =
    let j = c.args.self.now in
    let v = g.D.Disk.device in
    let d = c.args.disk.now in
    let none = c.in-None.is in
    record {
      dead = search rules;
      roomy = search rules;
      blames = record { later = omega arith; failed = search rules; counted = λ other. refl };
      fits = search rules;
      untouched = search rules;
      none = λ alive is. (refl, refl, refl);
      dies = search rules;
      same = (refl, refl, refl);
      held = none;
      stays = tt;
      written = shown_none j.held (v.bytes d) none;
      changes = no_gate v d j.held none;
      durable = λ gate is. absurd (cc (is, none));
      settled = λ payloads staged keeps. settled_none v g.met.D.Disk.lawful j.base j.place j.held payloads staged d keeps none;
      any_moment = λ payloads staged keeps. stays_before v g.met.D.Disk.lawful j.base j.place j.held payloads staged d keeps;
    }

pub returns-in-Ok : goal.returns-in-Ok
returns-in-Ok g c =
    let j = c.args.self.now in
    let v = g.D.Disk.device in
    let d = c.args.disk.now in
    let held = c.in-Some.is in
    record {
      dead = search rules;
      roomy = search rules;
      blames = record { later = search rules; failed = search rules; counted = search rules };
      fits = search rules;
      untouched = search rules;
      none = λ alive is. absurd (cc (is, held));
      dies = search rules;
      same = (refl, refl, refl);
      held = refl;
      stays = tt;
      written = c.in-Ok.ensures.written ∙ ap (λ (h : Option ℕ). shown h (v.bytes d)) (sym held);
      changes = subst (λ (h : Option ℕ). ChangesGate v d c.open.new.disk h) (sym held) c.open.ensures.changes;
      durable = λ gate is. c.in-Ok.ensures.durable;
      settled = λ payloads staged keeps. c.in-Ok.ensures.settled j.base j.place payloads staged (subst (λ (h : Option ℕ). KeepsStaged v d j.base j.place h payloads staged) held keeps);
      any_moment = λ payloads staged keeps. c.open.ensures.any_moment j.base j.place payloads staged (subst (λ (h : Option ℕ). KeepsStaged v d j.base j.place h payloads staged) held keeps);
    }

pub returns-in-Err : goal.returns-in-Err
returns-in-Err g c =
    let j = c.args.self.now in
    let v = g.D.Disk.device in
    let d = c.args.disk.now in
    let held = c.in-Some.is in
    record {
      dead = search rules;
      roomy = search rules;
      blames = record { later = search rules; failed = search rules; counted = λ other. absurd (other refl) };
      fits = search rules;
      untouched = search rules;
      none = λ alive is. absurd (cc (is, held));
      dies = search rules;
      same = (refl, refl, refl);
      held = tt;
      stays = refl;
      written = tt;
      changes = subst (λ (h : Option ℕ). ChangesGate v d c.open.new.disk h) (sym held) c.open.ensures.changes;
      durable = tt;
      settled = tt;
      any_moment = λ payloads staged keeps. c.open.ensures.any_moment j.base j.place payloads staged (subst (λ (h : Option ℕ). KeepsStaged v d j.base j.place h payloads staged) held keeps);
    }
