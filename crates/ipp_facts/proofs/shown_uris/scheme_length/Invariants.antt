-- The colon is in the rest.
use Rattle.std.proofs.Common.{◌≡◌, ◌+◌, drop}
use Rattle.ipp_facts.specs.ShownUris.{scheme_length}
use Rattle.ipp_facts.proofs.shown_uris.scheme_length.Given as goal

abbrev pub invariant-loop-i : goal.invariant-loop-i
invariant-loop-i l = l.i + scheme_length (drop l.i l.uri) ≡ scheme_length l.uri
