-- The values of environment variables, and their defaults.
use Rattle.std.specs.Prelude.{◌≡◌, ℕ, List, String, string_bytes, Option, None, Some}
use Rattle.std.specs.Global.{Global}
use Rattle.std.specs.Str.Parse.{digits_value, without_leading_plus}
use Rattle.clap.specs.Words.{IsUnsignedIn}

abbrev pub text_or : Option (String Global) → List ℕ → List ℕ
text_or None usual = usual
text_or (Some text) usual = string_bytes text

-- The decimal number, optionally after a plus sign. If the value is no number, or is greater than the greatest, the default is used.
abbrev pub IsNumberOr : ℕ → ℕ → Option (String Global) → ℕ → Type 0
IsNumberOr most usual None number = number ≡ usual
IsNumberOr most usual (Some text) number =
    (IsUnsignedIn 0 most (string_bytes text) → number ≡ digits_value 10 (without_leading_plus (string_bytes text)))
    × (¬ (IsUnsignedIn 0 most (string_bytes text)) → number ≡ usual)
