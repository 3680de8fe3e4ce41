-- The bytes of a buffer that holds a piece of a document and the byte after it.
use Rattle.std.specs.Prelude.{ℕ, List, drop, take}

-- The greatest length of a piece.
abbrev pub most_piece : ℕ
most_piece = 131071

-- The piece in the buffer.
abbrev pub piece_in : ℕ → List ℕ → List ℕ
piece_in filled buffer = take most_piece (take filled buffer)

-- The byte after it, if it was read.
abbrev pub ahead_in : ℕ → List ℕ → List ℕ
ahead_in filled buffer = drop most_piece (take filled buffer)
