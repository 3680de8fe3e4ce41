-- The names of challenges.
use Rattle.std.specs.Prelude.{ℕ, List, ◌++◌, codes}
use Rattle.hex.specs.Hex.{encode_lower}

-- The folder that a client makes: in the folder of proofs, under the bytes in hexadecimal digits.
abbrev pub challenge_of : List ℕ → List ℕ → List ℕ
challenge_of folder bytes = folder ++ codes "/" ++ encode_lower bytes
