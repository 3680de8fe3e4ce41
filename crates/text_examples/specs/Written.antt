-- The notation of texts in examples: `|` means a line feed, `~` a tab and `$` a carriage return.
use Prim.Native.String.{String}
use Rattle.std.specs.Prelude.{ℕ, cond, ◌==◌, List, map, codes}

abbrev pub byte : ℕ → ℕ
byte b = cond (b == 124) 10 (cond (b == 126) 9 (cond (b == 36) 13 b))

abbrev pub text : String → List ℕ
text written = map byte (codes written)
