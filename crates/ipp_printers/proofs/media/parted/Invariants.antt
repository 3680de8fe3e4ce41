-- The byte is not among those so far.
use Rattle.std.proofs.Common.{◌≡◌, take, drop}
use Rattle.ipp_printers.specs.MediaNames.{with_front, parted}
use Rattle.ipp_printers.proofs.media.parted.Given as goal

abbrev pub invariant-loop-i : goal.invariant-loop-i
invariant-loop-i l = with_front (take l.i l.bytes) (parted l.mark (drop l.i l.bytes)) ≡ parted l.mark l.bytes
