-- The remaining room is for the remaining codes.
use Rattle.std.proofs.Common.{◌≡◌, drop}
use Rattle.spool_types.specs.Effects.{effects_size, room_left}
use Rattle.spool_types.proofs.effects.room_after_all.Given as goal

abbrev pub invariant-loop-effect : goal.invariant-loop-effect
invariant-loop-effect l = room_left (effects_size l.effects) l.initial.left ≡ room_left (effects_size (drop l.effect-index l.effects)) l.left
