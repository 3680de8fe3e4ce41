-- The effects that one stage may have, and the number of bytes of their codes in the journal.
use Rattle.std.specs.Prelude.{◌≡◌, ℕ, ◌+◌, ◌-◌, ◌≤◌, Bool, true, false, cond, nat_le, List, [], ◌∷◌, length, Option, None, Some}
use Rattle.std.specs.List.{list_all}
use Rattle.spool_types.specs.declared.effect.Effect.{Effect}
use Rattle.spool_types.specs.declared.effect.Effect.TheVariants.{Pages, TotalPages, SetReasons, AddReasons, DropReasons, Attribute, Message}

abbrev pub is_some_word : List (List ℕ) → Bool
is_some_word [] = false
is_some_word (word ∷ words) = true

-- An effect that adds or drops reasons names at least one.
abbrev pub names_enough : Effect → Bool
names_enough (AddReasons words) = is_some_word words
names_enough (DropReasons words) = is_some_word words
names_enough effect = true

-- ## The number of bytes of a code: one byte for the kind of the effect, and its fields

-- A length in two bytes, followed by the text.
abbrev pub text_size : List ℕ → ℕ
text_size text = 2 + length text

abbrev pub texts_size : List (List ℕ) → ℕ
texts_size [] = 0
texts_size (text ∷ texts) = text_size text + texts_size texts

-- A count in two bytes, followed by the texts.
abbrev pub list_size : List (List ℕ) → ℕ
list_size texts = 2 + texts_size texts

-- A number has four bytes, a level one byte.
abbrev pub effect_size : Effect → ℕ
effect_size (Pages page copies) = 9
effect_size (TotalPages pages) = 5
effect_size (SetReasons words) = 1 + list_size words
effect_size (AddReasons words) = 1 + list_size words
effect_size (DropReasons words) = 1 + list_size words
effect_size (Attribute a) = 1 + text_size a.name + text_size a.value
effect_size (Message level text) = 2 + text_size text

-- The sum of the effects' sizes.
abbrev pub effects_size : List Effect → ℕ
effects_size [] = 0
effects_size (e ∷ es) = effect_size e + effects_size es

-- ## The effects of one stage

-- The maximum number of bytes of their codes.
abbrev pub most_effect_bytes : ℕ
most_effect_bytes = 16384

-- The room that is left after `size` bytes, or `None` if they do not fit.
abbrev pub room_left : ℕ → ℕ → Option ℕ
room_left size room = cond (nat_le size room) (Some (room - size)) None

-- These may be the effects of one stage.
pub record AreEffects (es : List Effect) : Type 0 where
  pub enough : list_all names_enough es ≡ true
  pub short : effects_size es ≤ most_effect_bytes
