-- The effects of a child's standard error (filter(7)) on a job's pages and on its queue, in order.
use Rattle.std.specs.Prelude.{ℕ, ◌+◌, ◌≤◌, Bool, true, false, min, IsTrue, List, length, fold}
use Rattle.spool_types.specs.declared.effect.Attribute as attributes
use Rattle.spool_types.specs.declared.effect.Effect.{Effect}
use Rattle.spool_types.specs.declared.effect.Effect.TheVariants.{Pages, TotalPages, SetReasons, AddReasons, DropReasons, Attribute, Message}
use Rattle.spool_types.specs.declared.rows.QueueRow.{QueueRow}
use Rattle.row_effects.specs.Keys.{is_ascending, most_kept}
use Rattle.row_effects.specs.QueueReasons.{word_of, add_reasons, set_reasons, drop_reasons}
use Rattle.row_effects.specs.QueueAttributes.{name_of, set_attribute}

-- The greatest number of pages of a job.
abbrev pub greatest_pages : ℕ
greatest_pages = 4294967295

abbrev pub pages_by : ℕ → Effect → ℕ
pages_by pages (Pages page copies) = min (pages + copies) greatest_pages
pages_by pages (TotalPages total) = total
pages_by pages effect = pages

-- Whether the effect is not a total, and the copies that an effect adds.
abbrev pub is_pages : Effect → Bool
is_pages (TotalPages total) = false
is_pages effect = true

abbrev pub copies_of : Effect → ℕ
copies_of (Pages page copies) = copies
copies_of effect = 0

abbrev pub reasons_by : List (List ℕ) → Effect → List (List ℕ)
reasons_by reasons (SetReasons words) = set_reasons words
reasons_by reasons (AddReasons words) = add_reasons words reasons
reasons_by reasons (DropReasons words) = drop_reasons words reasons
reasons_by reasons effect = reasons

abbrev pub attributes_by : List attributes.Attribute → Effect → List attributes.Attribute
attributes_by kept (Attribute attribute) = set_attribute kept attribute
attributes_by kept effect = kept

abbrev pub message_by : List ℕ → Effect → List ℕ
message_by message (Message level text) = text
message_by message effect = message

abbrev pub pages_after : List Effect → ℕ → ℕ
pages_after effects pages = fold pages_by pages effects

abbrev pub reasons_after : List Effect → List (List ℕ) → List (List ℕ)
reasons_after effects reasons = fold reasons_by reasons effects

abbrev pub attributes_after : List Effect → List attributes.Attribute → List attributes.Attribute
attributes_after effects kept = fold attributes_by kept effects

abbrev pub message_after : List Effect → List ℕ → List ℕ
message_after effects message = fold message_by message effects

-- Nothing else of the queue changes.
abbrev pub queue_after : List Effect → QueueRow → QueueRow
queue_after effects q = record q {
  reasons = reasons_after effects q.reasons;
  attributes = attributes_after effects q.attributes;
  message = message_after effects q.message;
}

-- The reasons and the attributes are in ascending order, at most 64 of each.
pub record IsInOrder (q : QueueRow) : Type 0 where
  pub reasons : IsTrue (is_ascending word_of q.reasons)
  pub few_reasons : length q.reasons ≤ most_kept
  pub attributes : IsTrue (is_ascending name_of q.attributes)
  pub few_attributes : length q.attributes ≤ most_kept
