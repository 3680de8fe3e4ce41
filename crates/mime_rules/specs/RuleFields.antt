-- The meanings of the values in memory.
use Rattle.std.specs.Prelude.{◌≡◌, ℕ, zero, suc, ◌+◌, ◌*◌, ◌≤◌, Bool, true, false, cond, ◌==◌, List, [], ◌∷◌, ◌++◌, length, map, Option, None, Some, Result, Ok, Err, ⊤, box_value}
use Rattle.spool_types.specs.declared.warning.WarningKind.TheVariants.{BadType, BadRule}
use Rattle.std.specs.Option.{option_map}
use Rattle.mime_rules.specs.declared.meaning.Subject.{Subject as MemorySubject}
use Rattle.mime_rules.specs.declared.pattern.Piece.{Piece as MemoryPiece}
use Rattle.mime_rules.specs.declared.pattern.Piece.TheVariants.{Run, Any as AnyByte, Byte, Set}
use Rattle.mime_rules.specs.declared.rule.Test.{Test}
use Rattle.mime_rules.specs.declared.rule.Test.TheVariants.{Suffix, Match, Ascii, Printable, Text, FoldedText, Contains, Locale}
use Rattle.mime_rules.specs.declared.rule.Rule.{Rule}
use Rattle.mime_rules.specs.declared.rule.Rule.TheOpen.{Rule-F, Leaf, Not, All, Any}
use Rattle.mime_rules.specs.declared.rule.Rule.TheFolds.{fold-Rule}
use Rattle.mime_rules.specs.declared.stop.Stop.{Stop}
use Rattle.mime_rules.specs.declared.stop.Stop.TheVariants.{Memory, Fault}
use Rattle.mime_rules.specs.declared.tokens.Token.{Token as MemoryToken}
use Rattle.mime_rules.specs.declared.tokens.Token.TheVariants.{Gap, Comma, Plus, Bang, Open, Close, Test as TestToken, Priority as PriorityToken, Fault as FaultToken}
use Rattle.mime_rules.specs.declared.line.Alternative.{Alternative as MemoryAlternative}
use Rattle.mime_rules.specs.TypesValue.{TypesValue}
use Rattle.mime_rules.specs.Tests.{Subject, negation, all_of, any_of, some_end, suffix_test, ascii_test, printable_test, string_test, istring_test, contains_test, locale_test}
use Rattle.mime_rules.specs.Patterns.{Piece, run, one, any_byte, is_in, matching, match_test, pattern_of, pieces_in, with_piece}
use Rattle.mime_rules.specs.RuleReading.{Read, read, wrong, on}
use Rattle.mime_rules.specs.TestArguments.{with_byte}
use Rattle.mime_rules.specs.Tokens.{Token, gap, comma, plus, bang, opening, closing, test, priority, fault}
use Rattle.mime_rules.specs.RuleGrammar.{factor_within, item_within, list_within, negated, group_end}
use Rattle.mime_rules.specs.RuleLines.{Alternative, Outcome, good, bad}

abbrev pub subject_of : MemorySubject → Subject
subject_of s = record { name = s.name.now; bytes = s.bytes.now; locale = s.locale.now }

abbrev pub piece_of : MemoryPiece → Piece
piece_of Run = run
piece_of AnyByte = one any_byte
piece_of (Byte b) = one (λ x. x == b)
piece_of (Set set) = one (is_in set.items)

abbrev pub meaning_of_test : Test → Subject → Bool
meaning_of_test (Suffix suffix) = suffix_test suffix.items
meaning_of_test (Match pattern) = match_test (map piece_of pattern.items)
meaning_of_test (Ascii range) = ascii_test range.offset range.count
meaning_of_test (Printable range) = printable_test range.offset range.count
meaning_of_test (Text o t) = string_test o t.items
meaning_of_test (FoldedText o t) = istring_test o t.items
meaning_of_test (Contains range t) = contains_test range.offset range.count t.items
meaning_of_test (Locale t) = locale_test t.items

-- The meaning of a rule from the meanings of the rules in it.
abbrev pub rule_step : Rule-F (Subject → Bool) → Subject → Bool
rule_step (Leaf t) = meaning_of_test t
rule_step (Not m) = negation (box_value m)
rule_step (All ms) = all_of ms.items
rule_step (Any ms) = any_of ms.items

abbrev pub meaning_of : Rule → Subject → Bool
meaning_of = fold-Rule (Subject → Bool) rule_step

abbrev pub all_mean : List Rule → Subject → Bool
all_mean rules = all_of (map meaning_of rules)

abbrev pub any_means : List Rule → Subject → Bool
any_means rules = any_of (map meaning_of rules)

-- The piece matches the byte.
abbrev pub passes_piece : Piece → ℕ → Bool
passes_piece run b = true
passes_piece (one passes) b = passes b

abbrev pub is_run : Piece → Bool
is_run run = true
is_run (one passes) = false

-- The rest of a pattern, which is empty or begins with a run, matches.
abbrev pub rest_matches : List Piece → List ℕ → Bool
rest_matches [] bytes = true
rest_matches (piece ∷ pieces) bytes = some_end (matching pieces) bytes

-- One more than the measure of the value, or 0 if there is none.
abbrev pub size_of : {A : Type 0} → (A → ℕ) → Option A → ℕ
size_of measure None = zero
size_of measure (Some a) = suc (measure a)

-- The result of an attempt to read: a value that represents the input, or its error. Nothing is stated if memory ran out.
abbrev pub Stopped : {X A : Type 0} → Stop → (Read X A → Type 0) → Type 0
Stopped Memory Says = ⊤
Stopped (Fault kind) Says = Says (wrong kind)

abbrev pub Reads : {V X A : Type 0} → Result V Stop → (V → Read X A) → (Read X A → Type 0) → Type 0
Reads (Ok v) seen Says = Says (seen v)
Reads (Err stop) seen Says = Stopped stop Says

-- The same, if the input has one reading.
abbrev pub ReadsExactly : {V X A : Type 0} → Result V Stop → (V → Read X A) → Read X A → Type 0
ReadsExactly result seen all = Reads result seen (λ r. all ≡ r)

-- Bytes in front of a text.
abbrev pub with_bytes : List ℕ → Read ℕ (List ℕ) → Read ℕ (List ℕ)
with_bytes [] text = text
with_bytes (b ∷ bs) text = with_byte b (with_bytes bs text)

-- The current run was appended to the old text, which is longer now.
abbrev pub Grown : {V : Type 0} → Result V Stop → (V → Read ℕ (List ℕ)) → List ℕ → List ℕ → Read ℕ (List ℕ) → Type 0
Grown result seen old longer all = Reads result (λ v. with_bytes longer (seen v)) (λ r. with_bytes old all ≡ r)

abbrev pub token_of : MemoryToken → Token
token_of Gap = gap
token_of Comma = comma
token_of Plus = plus
token_of Bang = bang
token_of Open = opening
token_of Close = closing
token_of (TestToken t) = test (meaning_of_test t)
token_of (PriorityToken n) = priority n
token_of (FaultToken kind) = fault kind

-- The reading of these tokens, with enough steps.
abbrev pub ListSays : ℕ → List Token → Read Token (Subject → Bool) → Type 0
ListSays groups ts r = (n : ℕ) → 3 * length ts + 3 ≤ n → list_within n groups ts ≡ r

abbrev pub ItemSays : ℕ → List Token → Read Token (Option (Subject → Bool)) → Type 0
ItemSays groups ts r = (n : ℕ) → 3 * length ts + 2 ≤ n → item_within n groups ts ≡ r

abbrev pub FactorSays : ℕ → List Token → Read Token (Option (Subject → Bool)) → Type 0
FactorSays groups ts r = (n : ℕ) → 3 * length ts + 1 ≤ n → factor_within n groups ts ≡ r

-- The same for a group, after its opening parenthesis.
abbrev pub group_within : ℕ → ℕ → List Token → Read Token (Option (Subject → Bool))
group_within n zero ts = wrong BadRule
group_within n (suc groups) ts = on group_end (list_within n groups ts)

abbrev pub GroupSays : ℕ → List Token → Read Token (Option (Subject → Bool)) → Type 0
GroupSays groups ts r = (n : ℕ) → 3 * length ts + 3 ≤ n → group_within n groups ts ≡ r

-- A group that is closed, or is not.
abbrev pub ended : Bool → (Subject → Bool) → List Token → Read Token (Option (Subject → Bool))
ended true m ts = read (Some m) ts
ended false m ts = wrong BadRule

abbrev pub is_plus : Token → Bool
is_plus plus = true
is_plus _ = false

abbrev pub is_plus_next : List Token → Bool
is_plus_next [] = false
is_plus_next (t ∷ ts) = is_plus t

abbrev pub behind_plus : List Token → List Token
behind_plus [] = []
behind_plus (t ∷ ts) = cond (is_plus t) ts (t ∷ ts)

abbrev pub is_bang : Token → Bool
is_bang bang = true
is_bang _ = false

abbrev pub is_bang_next : List Token → Bool
is_bang_next [] = false
is_bang_next (t ∷ ts) = is_bang t

abbrev pub behind_bang : List Token → List Token
behind_bang [] = []
behind_bang (t ∷ ts) = cond (is_bang t) ts (t ∷ ts)

-- The meaning of all factors together. None for an empty list.
abbrev pub all_or_none : List (Subject → Bool) → Option (Subject → Bool)
all_or_none [] = None
all_or_none (m ∷ ms) = Some (all_of (m ∷ ms))

-- An odd number of `!` negates.
abbrev pub negated_meaning : Bool → Option (Subject → Bool) → Option (Subject → Bool)
negated_meaning false m = m
negated_meaning true m = option_map negation m

abbrev pub with_bangs : Bool → Read Token (Option (Subject → Bool)) → Read Token (Option (Subject → Bool))
with_bangs false r = r
with_bangs true r = negated r

abbrev pub alternative_of : MemoryAlternative → Alternative
alternative_of a = record { media = a.media_type; priority = a.priority; rule = meaning_of a.rule }

abbrev pub types_of : TypesValue → List Alternative
types_of types = map alternative_of types

-- The result of a line.
abbrev pub LineTold : Result MemoryAlternative Stop → Outcome → Type 0
LineTold (Ok a) outcome = outcome ≡ good (alternative_of a)
LineTold (Err Memory) outcome = ⊤
LineTold (Err (Fault kind)) outcome = outcome ≡ bad kind

-- The media type of a line, or that it has none.
abbrev pub MediaTold : Result (List ℕ) Stop → Option (List ℕ) → Type 0
MediaTold (Ok media) all = all ≡ Some media
MediaTold (Err Memory) all = ⊤
MediaTold (Err (Fault kind)) all = (all ≡ None) × (kind ≡ BadType)

-- The pieces of a pattern, or its first piece. A set that is not closed makes the list of rules invalid.
abbrev pub PatternSays : List ℕ → Read ℕ (List Piece) → Type 0
PatternSays bytes (read pieces rest) = pattern_of bytes ≡ Some pieces
PatternSays bytes (wrong kind) = (pattern_of bytes ≡ None) × (kind ≡ BadRule)

abbrev pub PieceSays : List ℕ → Read ℕ Piece → Type 0
PieceSays bytes (read piece rest) = pieces_in None bytes ≡ with_piece piece (pieces_in None rest)
PieceSays bytes (wrong kind) = (pieces_in None bytes ≡ None) × (kind ≡ BadRule)

-- The error is the last token of a line.
abbrev pub EndsBy : Stop → List Token → List Token → Type 0
EndsBy Memory old all = ⊥
EndsBy (Fault kind) old all = all ≡ old ++ fault kind ∷ []
