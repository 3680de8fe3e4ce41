use Rattle.std.proofs.Common.{ap, sym, ◌∙◌, ◌∷◌, ◌++◌, [], cond, eq-eqb}
use Rattle.std.proofs.lemmas.Bool.{ne_eqb}
use Rattle.stderr_lines.specs.LineEffects.{without_cr}
use Rattle.stderr_lines.proofs.LineLaws.{cr_push}
use Rattle.stderr_lines.proofs.lines.without_cr.Goals as goal

pub returns-in-Some : goal.returns-in-Some
returns-in-Some c =
    let xs = c.in-Some.before.now in
    let b = c.in-Some.b.now in
    sym (ap without_cr c.in-Some.ensures.cases.0 ∙ cr_push xs b ∙ ap (λ v. cond v xs (xs ++ b ∷ [])) (eq-eqb b 13 c.if-b-eq-CARRIAGE_RETURN.true))

pub returns-in_default : goal.returns-in_default
returns-in_default c =
    let xs = c.in-Some.before.now in
    let b = c.in-Some.b.now in
    c.in-Some.ensures.cases.0
    ∙ sym (ap without_cr c.in-Some.ensures.cases.0 ∙ cr_push xs b ∙ ap (λ v. cond v xs (xs ++ b ∷ [])) (ne_eqb b 13 c.if-b-eq-CARRIAGE_RETURN.false))
