-- The tests of mime.types(5).
use Rattle.std.specs.Prelude.{ℕ, ◌-◌, Bool, true, false, ◌||◌, ◌&&◌, not, nat_le, ◌==◌, List, [], ◌∷◌, length, take, drop}
use Rattle.std.specs.List.{list_all}
use Rattle.std.specs.Str.{bytes_eq, str_eq_ignore_ascii_case}

-- The input of the rules: the document's name and bytes, and the locale.
pub record Subject : Type 0 where
  pub name : List ℕ
  pub bytes : List ℕ
  pub locale : List ℕ

-- The meaning of a rule is whether it is true of a subject.

abbrev pub never : Subject → Bool
never s = false

abbrev pub negation : (Subject → Bool) → Subject → Bool
negation m s = not (m s)

abbrev pub both : (Subject → Bool) → (Subject → Bool) → Subject → Bool
both m k s = m s && k s

abbrev pub always : (Subject → Bool)
always s = true

abbrev pub either : (Subject → Bool) → (Subject → Bool) → Subject → Bool
either m k s = m s || k s

-- Each of them is true, and one of them is.
abbrev pub all_of : List (Subject → Bool) → Subject → Bool
all_of [] = always
all_of (m ∷ ms) = both m (all_of ms)

abbrev pub any_of : List (Subject → Bool) → Subject → Bool
any_of [] = never
any_of (m ∷ ms) = either m (any_of ms)

-- The n bytes from o on, as far as they exist.
abbrev pub window : ℕ → ℕ → List ℕ → List ℕ
window o n bytes = take n (drop o bytes)

-- The last n bytes, or all.
abbrev pub last_bytes : ℕ → List ℕ → List ℕ
last_bytes n bytes = drop (length bytes - n) bytes

-- The bytes begin with t.
abbrev pub stands : List ℕ → List ℕ → Bool
stands t bytes = bytes_eq (take (length t) bytes) t

-- The same without regard to case.
abbrev pub stands_folded : List ℕ → List ℕ → Bool
stands_folded t bytes = str_eq_ignore_ascii_case (take (length t) bytes) t

-- The test passes the list, or some end of it.
abbrev pub some_end : (List ℕ → Bool) → List ℕ → Bool
some_end test [] = test []
some_end test (b ∷ bs) = test (b ∷ bs) || some_end test bs

-- A byte of an ASCII text: BS, HT, LF, CR and 32 to 126.
abbrev pub is_ascii_text : ℕ → Bool
is_ascii_text b = b == 8 || b == 9 || b == 10 || b == 13 || (nat_le 32 b && nat_le b 126)

-- The same, or 128 to 254.
abbrev pub is_printable_text : ℕ → Bool
is_printable_text b = is_ascii_text b || (nat_le 128 b && nat_le b 254)

-- The name ends with the suffix (a dot and a word), without regard to case.
abbrev pub suffix_test : List ℕ → Subject → Bool
suffix_test suffix s = str_eq_ignore_ascii_case (last_bytes (length suffix) s.name) suffix

abbrev pub ascii_test : ℕ → ℕ → Subject → Bool
ascii_test o n s = list_all is_ascii_text (window o n s.bytes)

abbrev pub printable_test : ℕ → ℕ → Subject → Bool
printable_test o n s = list_all is_printable_text (window o n s.bytes)

-- t is at byte offset o.
abbrev pub string_test : ℕ → List ℕ → Subject → Bool
string_test o t s = stands t (drop o s.bytes)

abbrev pub istring_test : ℕ → List ℕ → Subject → Bool
istring_test o t s = stands_folded t (drop o s.bytes)

-- t is contained in the n bytes from o on.
abbrev pub contains_test : ℕ → ℕ → List ℕ → Subject → Bool
contains_test o n t s = some_end (stands t) (window o n s.bytes)

abbrev pub locale_test : List ℕ → Subject → Bool
locale_test t s = bytes_eq s.locale t
