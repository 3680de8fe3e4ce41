-- Examples of effects on a job's pages and on a queue's reasons and attributes.
use Rattle.std.specs.Prelude.{◌≡◌, ℕ, ◌+◌, List, [], ◌∷◌, ◌++◌, map, codes, fold, zero, suc}
use Rattle.std.specs.List.{flat_map}
use Rattle.spool_types.specs.declared.effect.Attribute.{Attribute}
use Rattle.spool_types.specs.declared.effect.Effect.TheVariants as effects
use Rattle.spool_types.specs.declared.effect.Level.TheVariants.{Error}
use Rattle.row_effects.specs.QueueReasons.{add_reasons, drop_reasons, set_reasons}
use Rattle.row_effects.specs.QueueAttributes.{set_attribute}
use Rattle.row_effects.specs.EffectFold.{pages_after, reasons_after, attributes_after, message_after}

-- Pages are added, up to the greatest number, and set.
abbrev pub PageRows : Type 0
PageRows = pages_after (effects.Pages 1 2 ∷ effects.Pages 2 0 ∷ []) 0
    ∷ pages_after (effects.Pages 1 2 ∷ effects.TotalPages 9 ∷ []) 0
    ∷ pages_after (effects.Pages 1 5 ∷ effects.Pages 2 0 ∷ []) 4294967290
    ∷ pages_after (effects.Pages 1 6 ∷ effects.Pages 2 0 ∷ []) 4294967290
    ∷ pages_after (effects.Pages 1 4294967295 ∷ effects.TotalPages 0 ∷ []) 4294967295 ∷ []
    ≡ 2 ∷ 9 ∷ 4294967295 ∷ 4294967295 ∷ 0 ∷ []

-- Reasons are set, added and dropped.
abbrev pub ReasonRows : Type 0
ReasonRows = set_reasons (codes "b" ∷ codes "a" ∷ codes "b" ∷ [])
    ∷ add_reasons (codes "d" ∷ codes "c" ∷ codes "a" ∷ []) (codes "a" ∷ codes "b" ∷ [])
    ∷ drop_reasons (codes "d" ∷ codes "x" ∷ codes "a" ∷ []) (codes "a" ∷ codes "b" ∷ codes "c" ∷ codes "d" ∷ [])
    ∷ reasons_after (effects.SetReasons [] ∷ effects.AddReasons (codes "z" ∷ []) ∷ []) (codes "b" ∷ [])
    ∷ []
    ≡ (codes "a" ∷ codes "b" ∷ [])
    ∷ (codes "a" ∷ codes "b" ∷ codes "c" ∷ codes "d" ∷ [])
    ∷ (codes "b" ∷ codes "c" ∷ [])
    ∷ (codes "z" ∷ [])
    ∷ []

-- Consecutive numbers from n on, and the same in descending order.
abbrev pub numbers : ℕ → ℕ → List ℕ
numbers n zero = []
numbers n (suc count) = n ∷ numbers (n + 1) count

abbrev pub downwards : ℕ → ℕ → List ℕ
downwards n zero = []
downwards n (suc count) = (n + count) ∷ downwards n count

-- A different word for each number.
abbrev pub word : ℕ → List ℕ
word n = 119 ∷ n ∷ []

-- Of seventy words, each given twice, the first sixty-four are kept, in ascending order.
abbrev pub many_words : List (List ℕ)
many_words = map word (flat_map (λ n. n ∷ n ∷ []) (downwards 40 70))

abbrev pub SixtyFourReasons : Type 0
SixtyFourReasons = (add_reasons (word 40 ∷ word 50 ∷ []) (set_reasons many_words) ≡ map word (numbers 46 64))
    × (add_reasons (word 45 ∷ word 44 ∷ []) (drop_reasons (word 109 ∷ []) (set_reasons many_words)) ≡ map word (numbers 45 64))

abbrev pub attribute : List ℕ → ℕ → Attribute
attribute value n = record { name = word n; value = value }

-- Among sixty-four attributes one is replaced, and a further one is dropped.
abbrev pub SixtyFourAttributes : Type 0
SixtyFourAttributes = fold set_attribute [] (map (attribute (codes "v")) (numbers 40 65) ++ attribute (codes "w") 104 ∷ attribute (codes "w") 103 ∷ [])
    ≡ map (attribute (codes "v")) (numbers 40 63) ++ attribute (codes "w") 103 ∷ []

-- Attributes ascend by name, and a name takes its new value.
abbrev pub named : List ℕ → List ℕ → Attribute
named name value = record { name = name; value = value }

abbrev pub AttributeRows : Type 0
AttributeRows = attributes_after (effects.SetReasons [] ∷ effects.Attribute (named (codes "size") (codes "a4")) ∷ effects.Attribute (named (codes "colour") (codes "no")) ∷ []) []
    ∷ attributes_after (effects.Attribute (named (codes "size") (codes "a3")) ∷ []) (named (codes "colour") (codes "no") ∷ named (codes "size") (codes "a4") ∷ [])
    ∷ []
    ≡ (named (codes "colour") (codes "no") ∷ named (codes "size") (codes "a4") ∷ [])
    ∷ (named (codes "colour") (codes "no") ∷ named (codes "size") (codes "a3") ∷ [])
    ∷ []

-- The last message stays, even if it is empty.
abbrev pub MessageRows : Type 0
MessageRows = message_after (effects.DropReasons (codes "d" ∷ []) ∷ effects.Message Error (codes "jam") ∷ []) []
    ∷ message_after (effects.SetReasons [] ∷ []) (codes "jam")
    ∷ message_after (effects.Message Error [] ∷ []) (codes "jam")
    ∷ []
    ≡ codes "jam" ∷ codes "jam" ∷ [] ∷ []
