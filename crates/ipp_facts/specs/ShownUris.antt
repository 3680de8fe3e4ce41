-- The URI of a device as clients see it.
use Rattle.std.specs.Prelude.{ℕ, ◌+◌, Bool, ◌&&◌, ◌||◌, cond, ◌==◌, nat_eq, List, [], ◌∷◌, ◌++◌, codes, drop, length, take}
use Rattle.std.specs.List.{starts_with}
use Rattle.std.specs.Str.{str_eq_ignore_ascii_case}

-- The length of the scheme. Without a colon it is that of the URI.
abbrev pub scheme_length : List ℕ → ℕ
scheme_length [] = 0
scheme_length (b ∷ bs) = cond (b == 58) 0 (1 + scheme_length bs)

-- The schemes of the URL Standard whose URIs always have an authority. A file's has no user.
abbrev pub has_authority : List ℕ → Bool
has_authority scheme = str_eq_ignore_ascii_case scheme (codes "http") || (str_eq_ignore_ascii_case scheme (codes "https")
    || (str_eq_ignore_ascii_case scheme (codes "ftp") || (str_eq_ignore_ascii_case scheme (codes "ws") || str_eq_ignore_ascii_case scheme (codes "wss"))))

-- A slash or a backslash.
abbrev pub is_slash : ℕ → Bool
is_slash b = b == 47 || b == 92

-- The number of the slashes and backslashes at the beginning.
abbrev pub slashes : List ℕ → ℕ
slashes [] = 0
slashes (b ∷ bs) = cond (is_slash b) (1 + slashes bs) 0

-- Where the authority begins after the colon: after all slashes and backslashes for these schemes (URL Standard, 4.4), and else after two
-- slashes (RFC 3986, 3). Without an authority it is the end.
abbrev pub authority_in : Bool → List ℕ → ℕ
authority_in is_special rest = cond is_special (slashes rest) (cond (starts_with nat_eq rest (codes "//")) 2 (length rest))

-- Where the authority begins in a URI.
abbrev pub authority_at : List ℕ → ℕ
authority_at uri = cond (scheme_length uri == length uri) (scheme_length uri)
    (scheme_length uri + 1 + authority_in (has_authority (take (scheme_length uri) uri)) (drop (scheme_length uri + 1) uri))

-- A slash, a question mark or a number sign, or for these schemes a backslash.
abbrev pub ends_authority : Bool → ℕ → Bool
ends_authority is_special b = b == 47 || (b == 63 || (b == 35 || (is_special && b == 92)))

-- The longer length, where there is one.
abbrev pub one_more : ℕ → ℕ → ℕ
one_more shorter longer = cond (longer == 0) shorter (1 + longer)

-- The length of the name and the password in front of the host, with the "@" after them.
abbrev pub user_length : Bool → List ℕ → ℕ
user_length _ [] = 0
user_length is_special (b ∷ bs) = cond (ends_authority is_special b) 0 (one_more (cond (b == 64) 1 0) (user_length is_special bs))

-- The URI without the name and the password in front of the host.
abbrev pub without_user : List ℕ → List ℕ
without_user uri = take (authority_at uri) uri ++ drop (user_length (has_authority (take (scheme_length uri) uri)) (drop (authority_at uri) uri)) (drop (authority_at uri) uri)
