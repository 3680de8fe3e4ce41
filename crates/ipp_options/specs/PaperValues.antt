-- The sizes of paper that attributes name.
use Rattle.std.specs.Prelude.{ℕ, ◌+◌, Bool, true, false, ◌||◌, ◌&&◌, cond, nat_le, slice_get, is_some, List, [], ◌∷◌, codes, Option, None, Some}
use Rattle.std.specs.List.{list_any, find}
use Rattle.std.specs.Option.{option_map, option_and_then}
use Rattle.std.specs.Str.{str_eq_ignore_ascii_case}
use Rattle.ipp_printers.specs.MediaNames.{short_name}
use Rattle.ipp_printers.specs.declared.media.MediaSize.{MediaSize}
use Rattle.ipp_values.specs.declared.value.Value.{Value}
use Rattle.ipp_values.specs.declared.value.Value.TheVariants.{MemberName}
use Rattle.ipp_options.specs.AttributeWords.{same, is_same_word, integer_of, word_of}

-- ## media

-- The name of a size, or the middle part of the name in any case, such as `A4`.
abbrev pub names : List ℕ → MediaSize → Bool
names word size = same size.name word || str_eq_ignore_ascii_case (short_name size.name) word

abbrev pub is_media : List MediaSize → List ℕ → Bool
is_media sizes word = list_any (names word) sizes

-- ## media-col

abbrev pub first : List Value → Option Value
first values = slice_get values 0

abbrev pub is_member : List ℕ → Value → Bool
is_member name (MemberName member) = same member name
is_member name value = false

-- The values after the name of the first such member.
abbrev pub after_name : List ℕ → List Value → List Value
after_name name [] = []
after_name name (value ∷ values) = cond (is_member name value) values (after_name name values)

-- The first value of the first member with this name.
abbrev pub member : List ℕ → List Value → Option Value
member name values = first (after_name name values)

-- At most half a millimetre apart.
abbrev pub are_near : ℕ → ℕ → Bool
are_near a b = nat_le a (b + 50) && nat_le b (a + 50)

abbrev pub is_near : ℕ → ℕ → MediaSize → Bool
is_near width height size = are_near width size.width && are_near height size.height

abbrev pub size_near : List MediaSize → Option ℕ → Option ℕ → Option (List ℕ)
size_near sizes (Some width) (Some height) = option_map (λ size. size.name) (find (is_near width height) sizes)
size_near sizes width height = None

abbrev pub size_by_name : List MediaSize → Option (List ℕ) → Option (List ℕ)
size_by_name sizes None = None
size_by_name sizes (Some word) = option_map (λ size. size.name) (find (λ size. same size.name word) sizes)

-- The name of the size with the dimensions among these values.
abbrev pub size_between : List MediaSize → List Value → Option (List ℕ)
size_between sizes values =
    size_near sizes (option_and_then integer_of (member (codes "x-dimension") values)) (option_and_then integer_of (member (codes "y-dimension") values))

-- The name of the size that a collection of media-col describes, by its media-size or else by its media-size-name (PWG 5100.7).
abbrev pub size_in : List MediaSize → List Value → Option (List ℕ)
size_in sizes values =
    cond (is_some (member (codes "media-size") values))
    (size_between sizes (after_name (codes "media-size") values))
    (size_by_name sizes (option_and_then word_of (member (codes "media-size-name") values)))

abbrev pub is_word : List ℕ → Option Value → Bool
is_word word None = false
is_word word (Some value) = is_same_word word (word_of value)

-- Members of a size and its margins.
abbrev pub is_size_member : List ℕ → Bool
is_size_member name =
    same name (codes "media-size") || same name (codes "x-dimension") || same name (codes "y-dimension") || same name (codes "media-size-name")
    || same name (codes "media-bottom-margin") || same name (codes "media-left-margin") || same name (codes "media-right-margin") || same name (codes "media-top-margin")

-- The member of this name with this value.
abbrev pub is_usual : List ℕ → List ℕ → List ℕ → Option Value → Bool
is_usual member word name value = same name member && is_word word value

-- A member is honored if it describes the size or a margin, or asks for the source or the type that every printer has.
abbrev pub is_honored : List ℕ → Option Value → Bool
is_honored name value =
    is_size_member name || is_usual (codes "media-source") (codes "auto") name value || is_usual (codes "media-type") (codes "stationery") name value

abbrev pub honors : Value → Option Value → Bool
honors (MemberName name) next = is_honored name next
honors value next = true

-- All members are honored.
abbrev pub are_honored : List Value → Bool
are_honored [] = true
are_honored (value ∷ values) = honors value (first values) && are_honored values
