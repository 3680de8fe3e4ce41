-- The number of bytes of the codes of effects.
use Rattle.std.proofs.Common.{◌≡◌, ℕ, ◌+◌, ◌≤◌, List, [], ◌∷◌, length, refl, ap, ◌∙◌, arith}
use Rattle.std.specs.List.{flat_map}
use Rattle.std.proofs.lemmas.List.{length-append}
use Rattle.std.proofs.lemmas.List.Concat.{flat_map-cons}
use Rattle.spool_types.specs.declared.effect.Effect.{Effect}
use Rattle.spool_types.specs.declared.effect.Effect.TheVariants.{Pages, TotalPages, SetReasons, AddReasons, DropReasons, Attribute, Message}
use Rattle.spool_types.specs.Effects.{texts_size, effect_size, effects_size}
use Rattle.event_codec.specs.Spelling.{text_code, effect_code, effects_code}

texts_code_size : (texts : List (List ℕ)) → length (flat_map text_code texts) ≡ texts_size texts
texts_code_size [] = refl
texts_code_size (text ∷ texts) =
    ap length (flat_map-cons text_code text texts)
    ∙ omega (arith, length-append (text_code text) (flat_map text_code texts), texts_code_size texts)

pub effect_code_size : (e : Effect) → length (effect_code e) ≡ effect_size e
effect_code_size (Pages page copies) = refl
effect_code_size (TotalPages pages) = refl
effect_code_size (SetReasons words) = omega (arith, texts_code_size words)
effect_code_size (AddReasons words) = omega (arith, texts_code_size words)
effect_code_size (DropReasons words) = omega (arith, texts_code_size words)
effect_code_size (Attribute a) = omega (arith, length-append a.name (text_code a.value))
effect_code_size (Message level text) = omega arith

pub listed_size : (es : List Effect) → length (flat_map effect_code es) ≡ effects_size es
listed_size [] = refl
listed_size (e ∷ es) =
    ap length (flat_map-cons effect_code e es)
    ∙ omega (arith, length-append (effect_code e) (flat_map effect_code es), effect_code_size e, listed_size es)

pub effects_code_size : (es : List Effect) → length (effects_code es) ≡ 2 + effects_size es
effects_code_size es = omega (arith, listed_size es)

-- Each effect has at least one byte.
one_byte_at_least : (e : Effect) → 1 ≤ effect_size e
one_byte_at_least (Pages page copies) = omega arith
one_byte_at_least (TotalPages pages) = omega arith
one_byte_at_least (SetReasons words) = omega arith
one_byte_at_least (AddReasons words) = omega arith
one_byte_at_least (DropReasons words) = omega arith
one_byte_at_least (Attribute a) = omega arith
one_byte_at_least (Message level text) = omega arith

pub no_more_than_bytes : (es : List Effect) → length es ≤ effects_size es
no_more_than_bytes [] = omega arith
no_more_than_bytes (e ∷ es) = omega (arith, one_byte_at_least e, no_more_than_bytes es)
