-- If nothing is left to read, the document is at its end.
use Rattle.std.proofs.Common.{◌≡◌, true}
use Rattle.std.specs.Io.KnownBytes.{IsAtEnd}
use Rattle.spool_front.specs.DocumentPieces.{rest_of}
use Rattle.spool_front.specs.Submissions.{is_behind}
use Rattle.spool_front.proofs.submit.Submitting.submit.Given as goal

abbrev pub invariant-loop : goal.invariant-loop
invariant-loop g l = is_behind l.step ≡ true → IsAtEnd (rest_of (g.S.Read.remaining l.document.source) l.document)
