-- How much of a document the rules examine.
use Rattle.std.specs.Prelude.{◌≡◌, ℕ, ◌+◌, max, take, length, map, List, [], ◌∷◌, box_value}
use Rattle.mime_rules.specs.declared.line.Alternative.{Alternative as MemoryAlternative}
use Rattle.mime_rules.specs.declared.rule.Test.{Test}
use Rattle.mime_rules.specs.declared.rule.Test.TheVariants.{Suffix, Match, Ascii, Printable, Text, FoldedText, Contains, Locale}
use Rattle.mime_rules.specs.declared.rule.Rule.{Rule}
use Rattle.mime_rules.specs.declared.rule.Rule.TheOpen.{Rule-F, Leaf, Not, All, Any}
use Rattle.mime_rules.specs.declared.rule.Rule.TheFolds.{fold-Rule}
use Rattle.mime_rules.specs.Tests.{Subject}
use Rattle.mime_rules.specs.TypesValue.{TypesValue}
use Rattle.mime_rules.specs.BestType.{type_of}
use Rattle.mime_rules.specs.RuleFields.{types_of}

-- The document, cut after its first n bytes.
abbrev pub front : ℕ → Subject → Subject
front n s = record s { bytes = take n s.bytes }

-- The greatest number of the list, or 0.
abbrev pub greatest : List ℕ → ℕ
greatest [] = 0
greatest (n ∷ ns) = max n (greatest ns)

-- A test examines no byte at or after this offset.
abbrev pub reach_of_test : Test → ℕ
reach_of_test (Suffix suffix) = 0
reach_of_test (Match pattern) = 0
reach_of_test (Ascii range) = range.offset + range.count
reach_of_test (Printable range) = range.offset + range.count
reach_of_test (Text o t) = o + length t.items
reach_of_test (FoldedText o t) = o + length t.items
reach_of_test (Contains range t) = range.offset + range.count
reach_of_test (Locale t) = 0

-- The reach of a rule from the reach of each rule in it.
abbrev pub reach_step : Rule-F ℕ → ℕ
reach_step (Leaf t) = reach_of_test t
reach_step (Not n) = box_value n
reach_step (All ns) = greatest ns.items
reach_step (Any ns) = greatest ns.items

abbrev pub reach_of : Rule → ℕ
reach_of = fold-Rule ℕ reach_step

abbrev pub reach_of_all : List Rule → ℕ
reach_of_all rules = greatest (map reach_of rules)

abbrev pub reach_of_alternatives : List MemoryAlternative → ℕ
reach_of_alternatives alternatives = greatest (map (λ a. reach_of a.rule) alternatives)

-- No rule of the file examines a byte at or after this offset.
abbrev pub reach : TypesValue → ℕ
reach types = reach_of_alternatives types

-- The first n bytes of a document of this length determine its type.
abbrev pub IsEnough : TypesValue → ℕ → ℕ → Type 0
IsEnough types len n = (s : Subject) → length s.bytes ≡ len → type_of (front n s) (types_of types) ≡ type_of s (types_of types)
