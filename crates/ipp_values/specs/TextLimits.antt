-- The limits of character strings (RFC 8011, 5.1).
use Rattle.std.specs.Prelude.{ℕ, Bool, ◌&&◌, nat_le, List, length}
use Rattle.std.specs.List.{list_all}

abbrev pub is_up_to : ℕ → ℕ → Bool
is_up_to highest b = nat_le b highest

-- The text has from `least` to `most` octets, each at most `highest`.
abbrev pub is_text : ℕ → ℕ → ℕ → List ℕ → Bool
is_text least most highest text = nat_le least (length text) && nat_le (length text) most && list_all (is_up_to highest) text
