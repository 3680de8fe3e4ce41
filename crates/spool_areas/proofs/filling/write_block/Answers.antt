use Rattle.std.proofs.Common.{◌≡◌, ◌+◌, ◌++◌, ◌∷◌, [], List, ℕ, length, ap, ◌∙◌, subst, arith, length-append}
use Rattle.spool_disk.specs.Disk.{IsWritten, ChangesOnly}
use Rattle.spool_areas.proofs.Fillings.{fills_old, block_written}
use Rattle.spool_areas.proofs.filling.write_block.Goals as goal

pub returns-in_err-written-clause-any_moment : goal.returns-in_err-written-clause-any_moment
returns-in_err-written-clause-any_moment g c x rows within f =
    let long : length c.push_closed_gate.new.block.items ≡ length c.args.block.now.items + 1 = ap length c.push_closed_gate.ensures.items ∙ length-append c.args.block.now.items (0 ∷ []) in
    fills_old g.D.Disk.device g.met.D.Disk.lawful x c.args.disk.now c.write-written.new.self c.args.gate c.args.gate _ _ rows f (omega (arith, f.written.entries.gate_at)) (omega (arith, long, within)) c.write-written.ensures.changes

pub returns-clause-any_moment : goal.returns-clause-any_moment
returns-clause-any_moment g c x rows within f =
    let long : length c.push_closed_gate.new.block.items ≡ length c.args.block.now.items + 1 = ap length c.push_closed_gate.ensures.items ∙ length-append c.args.block.now.items (0 ∷ []) in
    fills_old g.D.Disk.device g.met.D.Disk.lawful x c.args.disk.now c.write-written.new.self c.args.gate c.args.gate _ _ rows f (omega (arith, f.written.entries.gate_at)) (omega (arith, long, within)) c.write-written.ensures.changes

pub returns-clause-added : goal.returns-clause-added
returns-clause-added g c x rows within f =
    let v = g.D.Disk.device in
    let block = c.args.block.now.items in
    let told : c.deref.result.now ≡ block ++ 0 ∷ [] = c.deref.ensures.value ∙ c.push_closed_gate.ensures.items in
    block_written v g.met.D.Disk.lawful x c.args.disk.now c.write-written.new.self c.args.gate block rows f c.requires.within within
    (subst (λ (l : List ℕ). IsWritten v c.args.disk.now c.write-written.new.self c.args.gate l) told c.in_ok-written.ensures.written)
    (subst (λ (n : ℕ). ChangesOnly v c.args.disk.now c.write-written.new.self c.args.gate n) (ap length told ∙ length-append block (0 ∷ [])) c.write-written.ensures.changes)
