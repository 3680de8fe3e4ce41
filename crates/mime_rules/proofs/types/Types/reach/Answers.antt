use Rattle.std.proofs.Common.{◌≡◌, ap, ◌∙◌, min}
use Rattle.mime_rules.specs.Reach.{reach}
use Rattle.mime_rules.proofs.ReachLaws.{is_enough}
use Rattle.mime_rules.proofs.types.Types.reach.Goals as goal

pub returns-clause-enough : goal.returns-clause-enough
returns-clause-enough c =
    let whole : c.deref.result.now ≡ c.args.self.now = search in
    is_enough c.args.self.now c.args.len c.reach_of_alternatives.result (c.reach_of_alternatives.ensures ∙ ap (λ types. min c.args.len (reach types)) whole)
