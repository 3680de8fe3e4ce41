-- The memory reserved for effects.
use Rattle.std.specs.Prelude.{◌≡◌, ℕ, ◌≤◌, Bool, true, false, List}
use Rattle.std.specs.List.{list_any}
use Rattle.spool_types.specs.declared.effect.Effect.{Effect}
use Rattle.spool_types.specs.declared.effect.Effect.TheVariants.{SetReasons, AddReasons, Attribute}
use Rattle.row_effects.specs.Keys.{most_kept}

-- Room for this number of reasons and of attributes.
pub record Room : Type 0 where
  pub reasons : ℕ
  pub attributes : ℕ

-- The effects that may add reasons, and the effects that may add attributes.
abbrev pub can_add_reasons : Effect → Bool
can_add_reasons (SetReasons words) = true
can_add_reasons (AddReasons words) = true
can_add_reasons effect = false

abbrev pub can_add_attributes : Effect → Bool
can_add_attributes (Attribute attribute) = true
can_add_attributes effect = false

-- Room for 64 reasons, if an effect may add reasons, and for 64 attributes, if an effect may add attributes.
pub record HasRoom (room : Room) (effects : List Effect) : Type 0 where
  pub reasons : list_any can_add_reasons effects ≡ true → most_kept ≤ room.reasons
  pub attributes : list_any can_add_attributes effects ≡ true → most_kept ≤ room.attributes
