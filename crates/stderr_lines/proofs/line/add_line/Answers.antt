use Rattle.std.proofs.Common.{ap, sym, ◌∙◌}
use Rattle.std.proofs.lemmas.Result.{on_ok_weaker}
use Rattle.stderr_lines.specs.LineEffects.{effects_by}
use Rattle.stderr_lines.specs.Tallies.{keep_all}
use Rattle.stderr_lines.proofs.TextLaws.{shown_rest, shown_line}
use Rattle.stderr_lines.proofs.line.add_line.Goals as goal

pub add_text-requires : goal.add_text-requires
add_text-requires c = shown_line c.args.line.now c.show.new.bytes c.in-Some.start c.requires c.show.ensures

pub returns : goal.returns
returns c =
    let t = c.args.tally.now in
    on_ok_weaker c.add_text.result
    (λ h. h ∙ ap (λ l. keep_all t (effects_by c.in-Some.prefix l)) (shown_rest c.args.line.now c.show.new.bytes c.in-Some.start c.show.ensures) ∙ ap (keep_all t) (sym c.in-Some.ensures.1))
    c.add_text.ensures
