-- The values of the words so far.
use Rattle.std.proofs.Common.{◌≡◌, map, take, Some}
use Rattle.ipp_printers.specs.PropertyValues.{every}
use Rattle.ipp_printers.proofs.property.read_every.Given as goal

abbrev pub invariant-loop-word : goal.invariant-loop-word
invariant-loop-word g l = every g.T.ListWord.read_in (map (λ word. word.now) (take l.word-index l.words)) ≡ Some l.items.items
