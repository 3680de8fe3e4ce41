use Rattle.std.proofs.Common.{rules, ◌≡◌, ℕ, [], ◌∷◌, ◌++◌, ◌+◌, ◌-◌, ◌<◌, ◌^◌, Some, ◌∙◌, ap, sym, subst, length, refl, arith}
use Rattle.std.specs.Option.{option_map}
use Rattle.spool_disk.specs.Disk.{overwritten}
use Rattle.spool_disk.proofs.Moments.{wider_change}
use Rattle.gate_journal.specs.Entries.{record_of}
use Rattle.gate_journal.specs.Frame.{payload_of}
use Rattle.gate_journal.specs.Staged.{gate_of, shown, KeepsStaged}
use Rattle.gate_journal.proofs.Steps.{payload_framed}
use Rattle.gate_journal.proofs.Staging.{behind_leaves, staged_more, payload_length}
use Rattle.gate_journal.proofs.journal.Journal.stage_with.Goals as goal

pub returns-in-Ok : goal.returns-in-Ok
returns-in-Ok g c =
    let j = c.args.self.now in
    let v = g.D.Disk.device in
    let n = length c.args.frame.now in
    let payload = payload_of c.args.frame.now in
    let gate = c.first_of.ensures.gate in
    let len = payload_length c.args.frame.now c.requires.whole in
    let short : length payload < 2 ^ 32 = omega (arith, len, c.requires.short) in
    record {
      dead = search rules;
      full = search rules;
      fits = search rules;
      blames = record { later = search rules; failed = search rules; counted = search rules };
      answer = search rules;
      untouched = search rules;
      dies = search rules;
      same = search rules;
      place = search rules;
      held = ap Some gate;
      stays = tt;
      payload = ap payload_of c.put.ensures.framed ∙ payload_framed payload;
      framed = search rules;
      written = subst (λ (k : ℕ). shown (Some k) (v.bytes c.put.new.disk) ≡ option_map (overwritten j.place (record_of payload ++ 0 ∷ [])) (shown j.held (v.bytes c.args.disk.now))) (sym gate) c.in-Ok.ensures.written;
      changes = c.put.ensures.changes;
      behind = c.put.ensures.behind;
      inside = wider_change v c.args.disk.now c.put.new.disk j.place (1 + n) j.place (j.end - j.place) (omega arith) (omega arith) c.put.ensures.changes;
      staged = λ payloads staged keeps.
          subst (λ (k : ℕ). KeepsStaged v c.put.new.disk j.base (j.place + n) (Some k) payloads (staged ++ payload ∷ [])) (sym gate)
          (staged_more v g.met.D.Disk.lawful j.base j.place j.held payloads staged c.args.disk.now keeps c.put.new.disk payload (j.place + n - gate_of j.held j.place) n short (sym len) c.put.ensures.behind c.in-Ok.ensures.written);
      any_moment = λ payloads staged keeps.
          behind_leaves v g.met.D.Disk.lawful j.base j.place j.held payloads staged c.args.disk.now keeps c.put.new.disk (j.place + n - gate_of j.held j.place) c.put.ensures.behind;
    }

pub returns-in-Err : goal.returns-in-Err
returns-in-Err g c =
    let j = c.args.self.now in
    let v = g.D.Disk.device in
    let n = length c.args.frame.now in
    let payload = payload_of c.args.frame.now in
    record {
      dead = search rules;
      full = search rules;
      fits = search rules;
      blames = record { later = search rules; failed = search rules; counted = λ other. absurd (other refl) };
      answer = search rules;
      untouched = search rules;
      dies = search rules;
      same = search rules;
      place = search rules;
      held = search rules;
      stays = (refl, refl);
      payload = ap payload_of c.put.ensures.framed ∙ payload_framed payload;
      framed = search rules;
      written = search rules;
      changes = c.put.ensures.changes;
      behind = c.put.ensures.behind;
      inside = wider_change v c.args.disk.now c.put.new.disk j.place (1 + n) j.place (j.end - j.place) (omega arith) (omega arith) c.put.ensures.changes;
      staged = search rules;
      any_moment = λ payloads staged keeps.
          behind_leaves v g.met.D.Disk.lawful j.base j.place j.held payloads staged c.args.disk.now keeps c.put.new.disk (j.place + n - gate_of j.held j.place) c.put.ensures.behind;
    }
