-- All bytes so far are slashes.
use Rattle.std.proofs.Common.{◌≡◌, ◌+◌, drop}
use Rattle.ipp_facts.specs.ShownUris.{slashes}
use Rattle.ipp_facts.proofs.shown_uris.slashes.Given as goal

abbrev pub invariant-loop-i : goal.invariant-loop-i
invariant-loop-i l = l.i + slashes (drop l.i l.rest) ≡ slashes l.rest
