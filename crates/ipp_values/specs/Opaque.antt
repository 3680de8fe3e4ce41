-- The numbers of value tags that no document assigns.
use Rattle.std.specs.Prelude.{ℕ, Bool, ◌||◌, ◌&&◌, not, nat_le}

abbrev pub is_within : ℕ → ℕ → ℕ → Bool
is_within least most n = nat_le least n && nat_le n most

-- From 0x11, and none of those of RFC 8010, 3.5.2: 0x12, 0x13, 0x21 to 0x23, 0x30 to 0x37, 0x41, 0x42 and 0x44 to 0x4a.
abbrev pub is_opaque : ℕ → Bool
is_opaque n = not (nat_le n 16 || is_within 18 19 n || is_within 33 35 n || is_within 48 55 n || is_within 65 66 n || is_within 68 74 n)
