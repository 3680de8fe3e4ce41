use Rattle.std.proofs.Common.{◌≡◌, length, ap, sym, ◌∙◌}
use Rattle.stderr_lines.specs.LineEffects.{without_cr, line_effects}
use Rattle.stderr_lines.specs.Tallies.{keep_all}
use Rattle.stderr_lines.proofs.LineLaws.{end_bytes, kept_held}
use Rattle.stderr_lines.proofs.lines.end_line.Goals as goal

pub slice_bounds-add_line-end : goal.slice_bounds-add_line-end
slice_bounds-add_line-end c =
    let xs = c.args.line.now.items in
    let w : c.without_cr-end.result.now ≡ without_cr xs = c.without_cr-end.ensures ∙ ap without_cr c.deref.ensures.value in
    ap length (w ∙ sym (end_bytes xs c.without_cr-end.result.now c.deref_mut.result.now w c.deref_mut.ensures.value))

pub returns : goal.returns
returns c =
    let xs = c.args.line.now.items in
    let t = c.args.tally.now in
    let w : c.without_cr-end.result.now ≡ without_cr xs = c.without_cr-end.ensures ∙ ap without_cr c.deref.ensures.value in (
      c.clear.ensures.items,
      c.in_ok-add_line.ensures ∙ ap (λ l. keep_all t (line_effects l)) (end_bytes xs c.without_cr-end.result.now c.deref_mut.result.now w c.deref_mut.ensures.value ∙ sym (kept_held xs c.requires.short)),
    )
