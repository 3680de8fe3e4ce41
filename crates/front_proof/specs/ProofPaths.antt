-- The paths of folders for a proof.
use Rattle.std.specs.Prelude.{◌≡◌, ℕ, ◌-◌, Bool, ◌&&◌, not, cond, ◌==◌, nat_le, List, codes, length, drop, slice_index, take, Option, None, Some, IsUtf8}
use Rattle.std.specs.Char.{is_ascii_hexdigit}
use Rattle.std.specs.List.{list_all, list_any, slice_split}
use Rattle.std.specs.Str.{bytes_eq}

abbrev pub is_slash : ℕ → Bool
is_slash b = b == 47

abbrev pub is_upward : List ℕ → Bool
is_upward part = bytes_eq part (codes "..")

-- The last part of the path consists of 32 hexadecimal digits.
abbrev pub has_random_name : List ℕ → Bool
has_random_name path = is_slash (slice_index path (length path - 33)) && list_all is_ascii_hexdigit (drop (length path - 32) path)

-- The path is absolute, its last part consists of 32 hexadecimal digits, and no part is `..`.
abbrev pub is_proof_path : List ℕ → Bool
is_proof_path path =
    nat_le 33 (length path)
    && (is_slash (slice_index path 0) && (has_random_name path && not (list_any is_upward (slice_split is_slash path))))

-- The path of a text, which is `None` if the text is not UTF-8.
abbrev pub IsPathOf : List ℕ → Option (List ℕ) → Type 0
IsPathOf text path = (IsUtf8 text → path ≡ cond (is_proof_path text) (Some text) None) × (¬ (IsUtf8 text) → path ≡ None)

-- The path without its last part.
abbrev pub parent_of : List ℕ → List ℕ
parent_of path = take (length path - 32) path
