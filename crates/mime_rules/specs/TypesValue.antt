-- The value of `Types`: the alternatives that a file declares.
use Rattle.std.specs.Prelude.{ℕ, List, refl}
use Rattle.std.specs.Coded.{Coded, code_by, coded×, coded_ℕ, coded_list}
use Rattle.mime_rules.specs.declared.line.Alternative.{Alternative}
use Rattle.mime_rules.specs.declared.rule.Rule.{Rule}
use Rattle.mime_rules.specs.contracts.rule.Rule as rules

-- The alternatives in the order of their lines, each rule as the tree of its tests.
abbrev pub TypesValue : Type 0
TypesValue = List Alternative

-- An alternative is stored as the tuple of its fields.
abbrev pub alternative_code : Coded Alternative
alternative_code =
    code_by (List ℕ × (ℕ × Rule)) (coded× (coded_list coded_ℕ) (coded× coded_ℕ rules.the_row.coded)) (λ a. (a.media_type, (a.priority, a.rule)))
    (λ p. record { media_type = p.0; priority = p.1.0; rule = p.1.1 }) (λ _. refl)

abbrev pub types_code : Coded TypesValue
types_code = coded_list alternative_code
