use Rattle.std.proofs.Common.{◌≡◌, [], eqb, ap, length, ◌∙◌, sym}
use Rattle.command_lines.specs.declared.command.Mode.TheVariants.{Line}
use Rattle.std.proofs.lemmas.List.{nil_from_length}
use Rattle.command_lines.specs.CommandGrammar.{kind_of}
use Rattle.command_lines.proofs.StepLaws.{is, ends_empty, ends_skipped, ends_blank, ends_plain, ends_takes, is_zero, not_zero}
use Rattle.command_lines.proofs.commands.Commands.last.Goals as goal

pub returns-then-is_empty-clause-ok : goal.returns-then-is_empty-clause-ok
returns-then-is_empty-clause-ok c =
    let p = c.args.self.now in
    ends_empty p (sym c.mode.ensures.value ∙ c.in-Line.is) (nil_from_length p.held (is_zero _ (ap (λ l. eqb (length l) 0) (sym c.held.ensures) ∙ sym c.is_empty.ensures ∙ c.if-is_empty.true)))

pub returns-in-Skip-clause-ok : goal.returns-in-Skip-clause-ok
returns-in-Skip-clause-ok c = ends_skipped c.args.self.now (sym c.mode.ensures.value ∙ c.in-Skip.is) c.requires

pub returns-in-Remark-clause-ok : goal.returns-in-Remark-clause-ok
returns-in-Remark-clause-ok c =
    let p = c.args.self.now in
    ends_blank p (sym c.mode.ensures.value ∙ c.in-Line.is) c.requires (sym c.in-Remark.is ∙ c.in_ok-kind-in-Line.ensures ∙ ap kind_of c.held-in-Line.ensures)

pub returns-in-Says-clause-ok : goal.returns-in-Says-clause-ok
returns-in-Says-clause-ok c =
    let p = c.args.self.now in
    let line : p.mode ≡ Line = sym c.mode.ensures.value ∙ c.in-Line.is in
    let e : c.drop_held.new.self ≡ is Line [] = c.drop_held.ensures ∙ ap (λ m. is m []) line in
    ends_plain p _ line (not_zero _ (ap (λ l. eqb (length l) 0) (sym c.held.ensures) ∙ sym c.is_empty.ensures ∙ c.if-is_empty.false)) c.requires e c.in-Says.command (sym c.in-Says.is ∙ c.in_ok-kind-in-Line.ensures ∙ ap kind_of c.held-in-Line.ensures)

pub returns-in-Takes-clause-ok : goal.returns-in-Takes-clause-ok
returns-in-Takes-clause-ok c =
    let p = c.args.self.now in
    let line : p.mode ≡ Line = sym c.mode.ensures.value ∙ c.in-Line.is in
    let e : c.drop_held.new.self ≡ is Line [] = c.drop_held.ensures ∙ ap (λ m. is m []) line in
    ends_takes p _ line (not_zero _ (ap (λ l. eqb (length l) 0) (sym c.held.ensures) ∙ sym c.is_empty.ensures ∙ c.if-is_empty.false)) c.requires e c.in-Takes.job c.in-Takes.count (sym c.in-Takes.is ∙ c.in_ok-kind-in-Line.ensures ∙ ap kind_of c.held-in-Line.ensures)
