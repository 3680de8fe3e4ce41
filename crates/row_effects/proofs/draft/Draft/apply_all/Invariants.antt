-- The draft is the one after the visited effects.
use Rattle.std.proofs.Common.{◌≡◌, ◌≤◌}
use Rattle.row_effects.specs.QueueDrafts.{IsAscendingDraft, room_of}
use Rattle.row_effects.specs.EffectFold.{reasons_after, attributes_after, message_after}
use Rattle.row_effects.proofs.draft.Draft.apply_all.Given as goal

abbrev pub invariant-loop-effect : goal.invariant-loop-effect
invariant-loop-effect l = record {
  ascending : IsAscendingDraft l.self;
  reasons : l.self.reasons.items ≡ reasons_after l.yielded l.fn.self.reasons.items;
  attributes : l.self.attributes.items ≡ attributes_after l.yielded l.fn.self.attributes.items;
  message : l.self.message ≡ message_after l.yielded l.fn.self.message;
  reasons_room : (room_of l.fn.self).reasons ≤ (room_of l.self).reasons;
  attributes_room : (room_of l.fn.self).attributes ≤ (room_of l.self).attributes;
}
