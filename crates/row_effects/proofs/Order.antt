-- A queue stays in order, whatever the effects.
use Rattle.std.proofs.Common.{◌≡◌, ℕ, ◌≤◌, true, List, [], ◌∷◌, length, refl, arith}
use Rattle.spool_types.specs.declared.effect.Attribute as attributes
use Rattle.spool_types.specs.declared.effect.Effect.{Effect}
use Rattle.spool_types.specs.declared.effect.Effect.TheVariants.{Pages, TotalPages, SetReasons, AddReasons, DropReasons, Attribute, Message}
use Rattle.spool_types.specs.declared.rows.QueueRow.{QueueRow}
use Rattle.row_effects.specs.Keys.{most_kept, is_ascending}
use Rattle.row_effects.specs.QueueReasons.{word_of}
use Rattle.row_effects.specs.QueueAttributes.{name_of}
use Rattle.row_effects.specs.EffectFold.{reasons_by, attributes_by, reasons_after, attributes_after, queue_after, IsInOrder}
use Rattle.row_effects.proofs.Kept.{ascends_kept, few_kept, few_filter}
use Rattle.row_effects.proofs.ReasonSteps.{ascends_added, few_added, ascends_dropped}

pub ascends_by : (reasons : List (List ℕ)) (effect : Effect) → is_ascending word_of reasons ≡ true → is_ascending word_of (reasons_by reasons effect) ≡ true
ascends_by reasons (SetReasons words) h = ascends_added words [] refl
ascends_by reasons (AddReasons words) h = ascends_added words reasons h
ascends_by reasons (DropReasons words) h = ascends_dropped words reasons h
ascends_by reasons (Pages page copies) h = h
ascends_by reasons (TotalPages total) h = h
ascends_by reasons (Attribute attribute) h = h
ascends_by reasons (Message level text) h = h

few_by : (reasons : List (List ℕ)) (effect : Effect) → is_ascending word_of reasons ≡ true → length reasons ≤ most_kept → length (reasons_by reasons effect) ≤ most_kept
few_by reasons (SetReasons words) h le = few_added words [] refl (omega arith)
few_by reasons (AddReasons words) h le = few_added words reasons h le
few_by reasons (DropReasons words) h le = few_filter _ reasons le
few_by reasons (Pages page copies) h le = le
few_by reasons (TotalPages total) h le = le
few_by reasons (Attribute attribute) h le = le
few_by reasons (Message level text) h le = le

names_ascend_by : (kept : List attributes.Attribute) (effect : Effect) → is_ascending name_of kept ≡ true → is_ascending name_of (attributes_by kept effect) ≡ true
names_ascend_by kept (Attribute attribute) h = ascends_kept name_of attribute kept h
names_ascend_by kept (SetReasons words) h = h
names_ascend_by kept (AddReasons words) h = h
names_ascend_by kept (DropReasons words) h = h
names_ascend_by kept (Pages page copies) h = h
names_ascend_by kept (TotalPages total) h = h
names_ascend_by kept (Message level text) h = h

few_names_by : (kept : List attributes.Attribute) (effect : Effect) → is_ascending name_of kept ≡ true → length kept ≤ most_kept → length (attributes_by kept effect) ≤ most_kept
few_names_by kept (Attribute attribute) h le = few_kept name_of attribute kept h le
few_names_by kept (SetReasons words) h le = le
few_names_by kept (AddReasons words) h le = le
few_names_by kept (DropReasons words) h le = le
few_names_by kept (Pages page copies) h le = le
few_names_by kept (TotalPages total) h le = le
few_names_by kept (Message level text) h le = le

reasons_ascend : (effects : List Effect) (reasons : List (List ℕ)) → is_ascending word_of reasons ≡ true → is_ascending word_of (reasons_after effects reasons) ≡ true
reasons_ascend [] reasons h = h
reasons_ascend (effect ∷ effects) reasons h = reasons_ascend effects (reasons_by reasons effect) (ascends_by reasons effect h)

few_reasons : (effects : List Effect) (reasons : List (List ℕ)) → is_ascending word_of reasons ≡ true → length reasons ≤ most_kept → length (reasons_after effects reasons) ≤ most_kept
few_reasons [] reasons h le = le
few_reasons (effect ∷ effects) reasons h le = few_reasons effects (reasons_by reasons effect) (ascends_by reasons effect h) (few_by reasons effect h le)

names_ascend : (effects : List Effect) (kept : List attributes.Attribute) → is_ascending name_of kept ≡ true → is_ascending name_of (attributes_after effects kept) ≡ true
names_ascend [] kept h = h
names_ascend (effect ∷ effects) kept h = names_ascend effects (attributes_by kept effect) (names_ascend_by kept effect h)

few_names : (effects : List Effect) (kept : List attributes.Attribute) → is_ascending name_of kept ≡ true → length kept ≤ most_kept → length (attributes_after effects kept) ≤ most_kept
few_names [] kept h le = le
few_names (effect ∷ effects) kept h le = few_names effects (attributes_by kept effect) (names_ascend_by kept effect h) (few_names_by kept effect h le)

pub stays_in_order : (effects : List Effect) (q : QueueRow) → IsInOrder q → IsInOrder (queue_after effects q)
stays_in_order effects q o = record {
  reasons = reasons_ascend effects q.reasons o.reasons;
  few_reasons = few_reasons effects q.reasons o.reasons o.few_reasons;
  attributes = names_ascend effects q.attributes o.attributes;
  few_attributes = few_names effects q.attributes o.attributes o.few_attributes;
}
