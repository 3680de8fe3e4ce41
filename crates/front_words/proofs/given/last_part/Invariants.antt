use Rattle.std.proofs.Common.{◌≡◌, length}
use Rattle.front_words.specs.ArgumentValues.{last_part, part_of}
use Rattle.front_words.proofs.given.last_part.Given as goal

abbrev pub invariant-loop-byte : goal.invariant-loop-byte
invariant-loop-byte l = part_of l.mark l.part l.rest ≡ last_part l.mark l.text

abbrev pub decreases-loop-byte : goal.decreases-loop-byte
decreases-loop-byte l = length l.rest
