-- The remaining room is for the remaining codes.
use Rattle.std.proofs.Common.{◌≡◌, drop}
use Rattle.spool_types.specs.Effects.{texts_size, room_left}
use Rattle.spool_types.proofs.effects.room_after_words.Given as goal

abbrev pub invariant-loop-word : goal.invariant-loop-word
invariant-loop-word l = room_left (texts_size l.words) l.initial.left ≡ room_left (texts_size (drop l.word-index l.words)) l.left
