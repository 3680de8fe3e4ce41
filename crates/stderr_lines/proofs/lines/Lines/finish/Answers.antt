use Rattle.std.proofs.Common.{◌≡◌, ◌≤◌, ap, ◌∙◌, arith}
use Rattle.stderr_lines.specs.LineEffects.{kept_line, line_effects}
use Rattle.stderr_lines.specs.PendingEffects.{Pending}
use Rattle.stderr_lines.specs.Reports.{Reported}
use Rattle.stderr_lines.specs.Tallies.{begun, joined, keep_all}
use Rattle.stderr_lines.proofs.LineLaws.{told_finish}
use Rattle.stderr_lines.proofs.lines.Lines.finish.Goals as goal

pub returns-in-Ok-clause-ok : goal.returns-in-Ok-clause-ok
returns-in-Ok-clause-ok c =
    let held = c.args.self.held in
    let t = c.args.self.tally in
    let u = c.self.inside.tally in
    let e : u ≡ joined t (keep_all (begun t) (line_effects (kept_line held))) = ap (λ (p : Pending). p.tally) (c.self.view_is ∙ c.in-Ok.ensures.ok) in
    let d : c.into_report.result.dropped ≡ u.dropped = ap (λ (r : Reported). r.dropped) c.into_report.ensures.told in
    let le : u.dropped ≤ 4294967295 = omega (arith, d, c.into_report.ensures.counted) in
    c.into_report.ensures.told ∙ told_finish held t u c.end.ensures.whole e le
