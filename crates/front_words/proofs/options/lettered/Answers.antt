use Rattle.std.proofs.Common.{[], ◌∷◌, ◌∙◌, ℕ, Bool, List, ap, false, map}
use Rattle.std.proofs.lemmas.List.{map-append}
use Rattle.std.proofs.lemmas.Result.{IfOk-weaker}
use Rattle.clap.specs.Words.{rule_of}
use Rattle.front_words.proofs.options.lettered.Goals as goal

pub returns-clause-rule : goal.returns-clause-rule
returns-clause-rule c =
    let arg = c.args.arg in
    IfOk-weaker c.short_alias.result _ _ (λ more adds. ap rule_of adds.0
    ∙ ap (λ (letters : List ℕ). record (rule_of arg) { short_aliases = letters })
    (ap (map (λ (alias : ℕ × Bool). alias.0)) adds.1 ∙ map-append (λ (alias : ℕ × Bool). alias.0) arg.short_aliases.items ((c.args.letter, false) ∷ []))) c.short_alias.ensures
