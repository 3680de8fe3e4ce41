-- The words of an error, before its number in brackets.
use Rattle.std.specs.Prelude.{◌≡◌, ◌==◌, ℕ, Bool, List, false}
use Rattle.std.specs.List.{All}

abbrev pub is_bracket : ℕ → Bool
is_bracket b = b == 40

abbrev pub HasNoBracket : List ℕ → Type 0
HasNoBracket text = All (λ b. is_bracket b ≡ false) text
