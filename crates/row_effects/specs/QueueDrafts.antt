-- A queue's reasons, attributes and message while effects are folded in.
use Rattle.std.specs.Prelude.{IsTrue, vec_capacity}
use Rattle.row_effects.specs.declared.draft.Draft.{Draft}
use Rattle.row_effects.specs.Keys.{is_ascending}
use Rattle.row_effects.specs.QueueReasons.{word_of}
use Rattle.row_effects.specs.QueueAttributes.{name_of}
use Rattle.row_effects.specs.Room.{Room}

abbrev pub room_of : Draft → Room
room_of a = record { reasons = vec_capacity a.reasons; attributes = vec_capacity a.attributes }

-- The reasons and the attributes are in ascending order.
pub record IsAscendingDraft (a : Draft) : Type 0 where
  pub reasons : IsTrue (is_ascending word_of a.reasons.items)
  pub attributes : IsTrue (is_ascending name_of a.attributes.items)
