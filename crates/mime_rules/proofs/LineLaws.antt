-- The lines of a file, in order.
use Rattle.std.proofs.Common.{◌≡◌, List, [], ◌∷◌, ◌++◌}
use Rattle.std.proofs.lemmas.List.Elements.{filter_map-append}
use Rattle.mime_lines.specs.JoinedLines.{Line}
use Rattle.mime_rules.specs.RuleLines.{alternative_in, warning_in, outcome_of, alternatives_in, warnings_in}

pub alternatives_more : (line : Line) (rest : List Line) → alternatives_in (line ∷ rest) ≡ alternatives_in (line ∷ []) ++ alternatives_in rest
alternatives_more line rest = filter_map-append (λ l. alternative_in (outcome_of l.text)) (line ∷ []) rest

pub warnings_more : (line : Line) (rest : List Line) → warnings_in (line ∷ rest) ≡ warnings_in (line ∷ []) ++ warnings_in rest
warnings_more line rest = filter_map-append (λ l. warning_in l.number (outcome_of l.text)) (line ∷ []) rest
