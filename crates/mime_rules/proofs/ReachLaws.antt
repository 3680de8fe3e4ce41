-- No rule examines a byte at or after its reach.
use Rattle.std.proofs.Common.{◌≡◌, ◌≤◌, ◌+◌, ℕ, List, [], ◌∷◌, length, take, drop, map, max, min, refl, sym, ap, ◌∙◌, subst, cond, arith, Bool, true, false, Some}
use Rattle.std.specs.Prelude.{◌&&◌, ◌||◌, not, nat_le, box_value}
use Rattle.std.proofs.lemmas.Bool.{leb-true, leb-false}
use Rattle.std.specs.List.{list_all}
use Rattle.std.specs.Option.{option_map}
use Rattle.std.specs.Str.{bytes_eq, str_eq_ignore_ascii_case}
use Rattle.std.proofs.Math.Seq.{take-length}
use Rattle.std.proofs.lemmas.List.{take-take, drop-take}
use Rattle.mime_rules.specs.declared.line.Alternative.{Alternative as MemoryAlternative}
use Rattle.mime_rules.specs.declared.rule.Test.{Test}
use Rattle.mime_rules.specs.declared.rule.Test.TheVariants.{Suffix, Match, Ascii, Printable, Text, FoldedText, Contains, Locale}
use Rattle.mime_rules.specs.declared.rule.Rule.{Rule}
use Rattle.mime_rules.specs.declared.rule.Rule.TheOpen.{Rule-F, Leaf, Not, All, Any}
use Rattle.mime_rules.specs.declared.rule.Rule.TheViews.{roll-Rule}
use Rattle.mime_rules.specs.declared.rule.Rule.TheFolds.{fold-roll-Rule, ind-Rule, map-Rule}
use Rattle.mime_rules.specs.Tests.{Subject, all_of, any_of, some_end, stands, is_ascii_text, is_printable_text}
use Rattle.mime_rules.specs.TypesValue.{TypesValue}
use Rattle.mime_rules.specs.BestType.{best, better}
use Rattle.mime_rules.specs.RuleFields.{meaning_of_test, rule_step, meaning_of, alternative_of}
use Rattle.mime_rules.specs.Reach.{front, greatest, reach_of_test, reach_step, reach_of, reach_of_alternatives, reach, IsEnough}

-- A window within the first n bytes is the window of the whole document.
window_of_front : (o k n : ℕ) (bytes : List ℕ) → o + k ≤ n → take k (drop o (take n bytes)) ≡ take k (drop o bytes)
window_of_front o k n bytes within = sym (drop-take o k (take n bytes)) ∙ ap (drop o) (take-take (o + k) n bytes within) ∙ drop-take o k bytes

-- ## Tests

test_sees : (t : Test) (n : ℕ) (s : Subject) → reach_of_test t ≤ n → meaning_of_test t (front n s) ≡ meaning_of_test t s
test_sees (Suffix suffix) n s within = refl
test_sees (Match pattern) n s within = refl
test_sees (Ascii range) n s within = ap (list_all is_ascii_text) (window_of_front range.offset range.count n s.bytes within)
test_sees (Printable range) n s within = ap (list_all is_printable_text) (window_of_front range.offset range.count n s.bytes within)
test_sees (Text o t) n s within = ap (λ b. bytes_eq b t.items) (window_of_front o (length t.items) n s.bytes within)
test_sees (FoldedText o t) n s within = ap (λ b. str_eq_ignore_ascii_case b t.items) (window_of_front o (length t.items) n s.bytes within)
test_sees (Contains range t) n s within = ap (some_end (stands t.items)) (window_of_front range.offset range.count n s.bytes within)
test_sees (Locale t) n s within = refl

-- ## Rules

abbrev SeesFront : Rule → Type 0
SeesFront r = (n : ℕ) (s : Subject) → reach_of r ≤ n → meaning_of r (front n s) ≡ meaning_of r s

-- The same for a layer whose rules have their reach and their meaning already.
abbrev LayerSees : Rule-F Rule → Type 0
LayerSees x = (n : ℕ) (s : Subject) → reach_step (map-Rule Rule ℕ reach_of x) ≤ n
    → rule_step (map-Rule Rule (Subject → Bool) meaning_of x) (front n s) ≡ rule_step (map-Rule Rule (Subject → Bool) meaning_of x) s

by_layer : (x : Rule-F Rule) → LayerSees x → SeesFront (roll-Rule x)
by_layer x sees n s within =
    let is = fold-roll-Rule (Subject → Bool) rule_step x in
    ap (λ m. m (front n s)) is ∙ sees n s (subst (λ k. k ≤ n) (fold-roll-Rule ℕ reach_step x) within) ∙ sym (ap (λ m. m s) is)

abbrev Seen : Type 0
Seen = (r : Rule) × SeesFront r

all_see : (es : List Seen) (n : ℕ) (s : Subject) → greatest (map reach_of (map (λ e. e.0) es)) ≤ n
    → all_of (map meaning_of (map (λ e. e.0) es)) (front n s) ≡ all_of (map meaning_of (map (λ e. e.0) es)) s
all_see [] n s within = refl
all_see (e ∷ es) n s within =
    ap (λ b. b && all_of (map meaning_of (map (λ e. e.0) es)) (front n s)) (e.1 n s (omega (arith, within)))
    ∙ ap (λ b. meaning_of e.0 s && b) (all_see es n s (omega (arith, within)))

any_see : (es : List Seen) (n : ℕ) (s : Subject) → greatest (map reach_of (map (λ e. e.0) es)) ≤ n
    → any_of (map meaning_of (map (λ e. e.0) es)) (front n s) ≡ any_of (map meaning_of (map (λ e. e.0) es)) s
any_see [] n s within = refl
any_see (e ∷ es) n s within =
    ap (λ b. b || any_of (map meaning_of (map (λ e. e.0) es)) (front n s)) (e.1 n s (omega (arith, within)))
    ∙ ap (λ b. meaning_of e.0 s || b) (any_see es n s (omega (arith, within)))

layer_sees : (y : Rule-F Seen) → LayerSees (map-Rule Seen Rule (λ e. e.0) y)
layer_sees (Leaf t) = test_sees t
layer_sees (Not e) = λ n s within. ap not ((box_value e).1 n s within)
layer_sees (All es) = all_see es.items
layer_sees (Any es) = any_see es.items

rule_sees : (r : Rule) → SeesFront r
rule_sees = ind-Rule SeesFront (λ x y is. subst (λ z. SeesFront (roll-Rule z)) is (by_layer (map-Rule Seen Rule (λ e. e.0) y) (layer_sees y)))

-- ## Files

best_sees : (n : ℕ) (s : Subject) (all : List MemoryAlternative) → reach_of_alternatives all ≤ n → best (front n s) (map alternative_of all) ≡ best s (map alternative_of all)
best_sees n s [] within = refl
best_sees n s (a ∷ all) within =
    let found = best (front n s) (map alternative_of all) in
    ap (λ b. cond b (Some (better (alternative_of a) found)) found) (rule_sees a.rule n s (omega (arith, within)))
    ∙ ap (λ f. cond (meaning_of a.rule s) (Some (better (alternative_of a) f)) f) (best_sees n s all (omega (arith, within)))

-- The bytes that the rules examine determine the type of a document.
pub is_enough : (types : TypesValue) (len n : ℕ) → n ≡ min len (reach types) → IsEnough types len n
is_enough types len n is s long = by_order (nat_le (reach types) len) refl
  where
    by_order : (b : Bool) → nat_le (reach types) len ≡ b → option_map (λ a. a.media) (best (front n s) (map alternative_of types)) ≡ option_map (λ a. a.media) (best s (map alternative_of types))
    by_order true shorter = ap (option_map (λ a. a.media)) (best_sees n s types (omega (arith, is, leb-true (reach types) len shorter)))
    by_order false longer =
        let all : length s.bytes ≡ n = long ∙ omega (arith, is, leb-false (reach types) len longer) in
        ap (λ b. option_map (λ a. a.media) (best (record s { bytes = b }) (map alternative_of types))) (ap (λ k. take k s.bytes) (sym all) ∙ take-length s.bytes)
