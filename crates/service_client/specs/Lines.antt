-- The lines in a stream.
use Rattle.std.specs.Prelude.{◌≢◌, ℕ, List, [], ◌∷◌, ◌++◌, Vec}
use Rattle.std.specs.Global.{Global}
use Rattle.std.specs.List.{All, flat_map}

-- A line of the stream, with its line feed.
abbrev pub with_feed : List ℕ → List ℕ
with_feed line = line ++ 10 ∷ []

-- No byte ends a line.
abbrev pub IsLine : List ℕ → Type 0
IsLine line = All (λ b. b ≢ 10) line

-- The bytes of these lines.
abbrev pub lines_text : List (Vec ℕ Global) → List ℕ
lines_text lines = flat_map (λ line. with_feed line.items) lines
