use Rattle.std.proofs.Common.{[], ◌∷◌, ap, sym, ◌∙◌, map, Some}
use Rattle.std.specs.Option.{option_map}
use Rattle.std.proofs.lemmas.List.{map-append}
use Rattle.mime_rules.specs.RuleFields.{alternative_of, subject_of}
use Rattle.mime_rules.proofs.BestLaws.{best_onto, best_onto_none, best_true, best_false}
use Rattle.mime_rules.proofs.types.best.Goals as goal

pub loop-last-init : goal.loop-last-init
loop-last-init c = best_onto_none (subject_of c.args.subject.now) (map alternative_of c.args.alternatives.now)

pub loop-last-preserved-then-holds : goal.loop-last-preserved-then-holds
loop-last-preserved-then-holds c =
    let s = subject_of c.args.subject.now in
    let found = option_map (λ a. alternative_of a.now) c.loop-last.found in
    ap (λ v. best_onto s (map alternative_of c.in-Some.before.now) (Some v)) c.better.ensures
    ∙ sym (ap (λ l. best_onto s (map alternative_of l) found) c.in-Some.ensures.cases.0
    ∙ ap (λ v. best_onto s v found) (map-append alternative_of c.in-Some.before.now (c.in-Some.last.now ∷ []))
    ∙ best_true s (map alternative_of c.in-Some.before.now) (alternative_of c.in-Some.last.now) found (sym c.holds.ensures.value ∙ c.if-holds.true))
    ∙ c.loop-last.invariant

pub loop-last-preserved : goal.loop-last-preserved
loop-last-preserved c =
    let s = subject_of c.args.subject.now in
    let found = option_map (λ a. alternative_of a.now) c.loop-last.found in
    sym (ap (λ l. best_onto s (map alternative_of l) found) c.in-Some.ensures.cases.0
    ∙ ap (λ v. best_onto s v found) (map-append alternative_of c.in-Some.before.now (c.in-Some.last.now ∷ []))
    ∙ best_false s (map alternative_of c.in-Some.before.now) (alternative_of c.in-Some.last.now) found (sym c.holds.ensures.value ∙ c.if-holds.false))
    ∙ c.loop-last.invariant
