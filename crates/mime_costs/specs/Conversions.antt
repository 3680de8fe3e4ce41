-- The sources of conversions, and the types that they accept (mime.convs(5)).
use Rattle.std.specs.Prelude.{ℕ, Bool, ◌||◌, ◌&&◌, nat_eq, nat_le, List, ◌++◌, length, codes}
use Rattle.std.specs.List.{list_all, list_any, before_first, after_first}
use Rattle.std.specs.Cmp.Lexicographic.{pointwise}
use Rattle.spool_types.specs.Values.{is_media_byte, is_media_type, is_slash}

-- The same bytes.
abbrev pub same : List ℕ → List ℕ → Bool
same text other = pointwise nat_eq text other

-- `*/*`, which accepts every type.
abbrev pub every_type : List ℕ
every_type = codes "*/*"

-- The super type of a media type and `/*`, which accepts every type of that super type.
abbrev pub super_source : List ℕ → List ℕ
super_source media = before_first is_slash media ++ codes "/*"

-- A super type and `/*`.
abbrev pub is_super_source : List ℕ → Bool
is_super_source text = list_any is_slash text && nat_le 1 (length (before_first is_slash text)) && list_all is_media_byte (before_first is_slash text) && same (after_first is_slash text) (codes "*")

-- A source, in lower case.
abbrev pub is_source : List ℕ → Bool
is_source text = same text every_type || is_super_source text || is_media_type text

-- The source accepts the type.
abbrev pub matches : List ℕ → List ℕ → Bool
matches source media = same source media || same source (super_source media) || same source every_type
