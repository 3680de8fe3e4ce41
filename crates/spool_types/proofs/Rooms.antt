-- Effects and the bytes of their codes.
use Rattle.std.proofs.Common.{◌≡◌, ℕ, ◌+◌, ◌≤◌, Bool, true, false, List, [], ◌∷◌, length, leb, refl, ap, sym, ◌∙◌, arith}
use Rattle.std.proofs.lemmas.Bool.{leb-true, leb-false, le-leb}
use Rattle.std.specs.List.{list_all}
use Rattle.spool_types.specs.declared.effect.Effect.{Effect}
use Rattle.spool_types.specs.declared.effect.Effect.TheVariants.{Pages, TotalPages, SetReasons, AddReasons, DropReasons, Attribute, Message}
use Rattle.spool_types.specs.Effects.{effect_size, effects_size, list_size, text_size}

one_byte : (e : Effect) → 1 ≤ effect_size e
one_byte (Pages page copies) = omega arith
one_byte (TotalPages pages) = omega arith
one_byte (SetReasons words) = let n = list_size words in omega arith
one_byte (AddReasons words) = let n = list_size words in omega arith
one_byte (DropReasons words) = let n = list_size words in omega arith
one_byte (Attribute a) = let n = text_size a.name in let m = text_size a.value in omega arith
one_byte (Message level text) = let n = text_size text in omega arith

-- There are at most as many effects as bytes.
pub few : (es : List Effect) → length es ≤ effects_size es
few [] = omega arith
few (e ∷ es) = let one = one_byte e in let others = few es in omega arith
