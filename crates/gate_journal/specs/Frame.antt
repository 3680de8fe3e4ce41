-- A frame is four free bytes, the payload and one free byte.
use Rattle.std.specs.Prelude.{ℕ, ◌-◌, List, [], ◌∷◌, ◌++◌, length, take, drop}
use Rattle.std.specs.Int.{w32, to_be_bytes}

abbrev pub payload_of : List ℕ → List ℕ
payload_of frame = take (length frame - 5) (drop 4 frame)

-- The frame of a payload as written: its length in four bytes, high byte first, the payload, and the closed gate after it.
abbrev pub framed : List ℕ → List ℕ
framed payload = to_be_bytes w32 (length payload) ++ payload ++ 0 ∷ []
