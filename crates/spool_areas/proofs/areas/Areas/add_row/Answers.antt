use Rattle.std.proofs.Common.{◌+◌, ◌++◌, ◌∷◌, [], List, ℕ, take, drop, sym, subst, arith, length-drop}
use Rattle.spool_areas.specs.AreaFilling.{Fills}
use Rattle.spool_areas.proofs.Fillings.{fills_now, one_more, with_ok}
use Rattle.spool_areas.proofs.areas.Areas.add_row.Goals as goal

pub returns-then-self-clause-any_moment : goal.returns-then-self-clause-any_moment
returns-then-self-clause-any_moment g c x rows is_other is_len f = fills_now g.D.Disk.device g.met.D.Disk.lawful x c.args.self.now.disk c.args.gate _ rows f

pub returns-then-len-lt-BLOCK_LEN-clause-added : goal.returns-then-len-lt-BLOCK_LEN-clause-added
returns-then-len-lt-BLOCK_LEN-clause-added g c x rows is_other is_len f =
    let block = c.args.block.now.items in
    let payload = drop (c.args.start + 5) block in
    subst (λ (l : List ℕ). Fills g.D.Disk.device x c.args.self.now.disk c.args.gate l (rows ++ payload ∷ [])) (sym c.fill_head.ensures.filled)
    (one_more g.D.Disk.device x c.args.self.now.disk c.args.gate (take c.args.start block) payload rows (omega (arith, c.requires.short, length-drop (c.args.start + 5) block)) f)

pub returns-then-len-lt-BLOCK_LEN-clause-any_moment :
    goal.returns-then-len-lt-BLOCK_LEN-clause-any_moment
returns-then-len-lt-BLOCK_LEN-clause-any_moment g c x rows is_other is_len f = fills_now g.D.Disk.device g.met.D.Disk.lawful x c.args.self.now.disk c.args.gate _ rows f

pub returns-clause-added : goal.returns-clause-added
returns-clause-added g c =
    with_ok c.write_rows.result c.write_rows.ensures.added c.write_rows.ensures.emptied (λ next added emptied x rows is_other is_len f.
    let block = c.args.block.now.items in
    let payload = drop (c.args.start + 5) block in
    subst (λ (l : List ℕ). Fills g.D.Disk.device x c.write_rows.new.self.disk next l (rows ++ payload ∷ [])) (sym emptied)
    (added x (rows ++ payload ∷ []) is_other is_len
    (subst (λ (l : List ℕ). Fills g.D.Disk.device x c.args.self.now.disk c.args.gate l (rows ++ payload ∷ [])) (sym c.fill_head.ensures.filled)
    (one_more g.D.Disk.device x c.args.self.now.disk c.args.gate (take c.args.start block) payload rows (omega (arith, c.requires.short, length-drop (c.args.start + 5) block)) f))))

pub returns-clause-any_moment : goal.returns-clause-any_moment
returns-clause-any_moment g c x rows is_other is_len f =
    let block = c.args.block.now.items in
    let payload = drop (c.args.start + 5) block in
    c.write_rows.ensures.any_moment x (rows ++ payload ∷ []) is_other is_len
    (subst (λ (l : List ℕ). Fills g.D.Disk.device x c.args.self.now.disk c.args.gate l (rows ++ payload ∷ [])) (sym c.fill_head.ensures.filled)
    (one_more g.D.Disk.device x c.args.self.now.disk c.args.gate (take c.args.start block) payload rows (omega (arith, c.requires.short, length-drop (c.args.start + 5) block)) f))
