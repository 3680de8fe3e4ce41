-- The best alternative, computed from the last one on.
use Rattle.std.proofs.Common.{◌≡◌, true, false, cond, List, [], ◌∷◌, ◌++◌, refl, ap, ◌∙◌, Option, None, Some}
use Rattle.mime_rules.specs.Tests.{Subject}
use Rattle.mime_rules.specs.RuleLines.{Alternative}
use Rattle.mime_rules.specs.BestType.{best, better}

-- The best of these and of one that was found already.
abbrev pub best_onto : Subject → List Alternative → Option Alternative → Option Alternative
best_onto s [] found = found
best_onto s (a ∷ more) found = cond (a.rule s) (Some (better a (best_onto s more found))) (best_onto s more found)

pub best_onto_none : (s : Subject) (all : List Alternative) → best_onto s all None ≡ best s all
best_onto_none s [] = refl
best_onto_none s (a ∷ more) = ap (λ b. cond (a.rule s) (Some (better a b)) b) (best_onto_none s more)

pub best_onto-push : (s : Subject) (all : List Alternative) (a : Alternative) (found : Option Alternative) →
    best_onto s (all ++ a ∷ []) found ≡ best_onto s all (cond (a.rule s) (Some (better a found)) found)
best_onto-push s [] a found = refl
best_onto-push s (b ∷ all) a found = ap (λ v. cond (b.rule s) (Some (better b v)) v) (best_onto-push s all a found)

pub best_true : (s : Subject) (all : List Alternative) (a : Alternative) (found : Option Alternative) → a.rule s ≡ true →
    best_onto s (all ++ a ∷ []) found ≡ best_onto s all (Some (better a found))
best_true s all a found h = best_onto-push s all a found ∙ ap (λ v. best_onto s all (cond v (Some (better a found)) found)) h

pub best_false : (s : Subject) (all : List Alternative) (a : Alternative) (found : Option Alternative) → a.rule s ≡ false →
    best_onto s (all ++ a ∷ []) found ≡ best_onto s all found
best_false s all a found h = best_onto-push s all a found ∙ ap (λ v. best_onto s all (cond v (Some (better a found)) found)) h
