-- The pieces of a document.
use Rattle.std.specs.Prelude.{ℕ, Bool, List, Option}
use Rattle.std.specs.Io.KnownBytes.{prepend_known}
use Rattle.spool_front.specs.PieceBounds.{ahead_in, piece_in}
use Rattle.spool_front.specs.declared.document.Document.{Document}

-- The piece that was read last.
abbrev pub piece_of : {S : Type 0} → Document S → List ℕ
piece_of document = piece_in document.filled document.buffer.items

-- The byte that was read after the piece, if there was one.
abbrev pub ahead_of : {S : Type 0} → Document S → List ℕ
ahead_of document = ahead_in document.filled document.buffer.items

-- The document ends with the piece that was read last.
abbrev pub is_last : {S : Type 0} → Document S → Bool
is_last document = document.ended

-- The bytes after the piece, from those that are left in the source.
abbrev pub rest_of : {S : Type 0} → Option (List ℕ) → Document S → Option (List ℕ)
rest_of left document = prepend_known (ahead_of document) left
