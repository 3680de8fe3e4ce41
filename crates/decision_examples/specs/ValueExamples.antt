-- Examples of the limits of the spooler's values, and of the length of encoded effects.
use Rattle.std.specs.Prelude.{◌≡◌, ℕ, ◌+◌, true, false, cond, min, List, [], ◌∷◌, ◌++◌, map, codes, Option, None, Some}
use Rattle.std.specs.List.{list_all}
use Rattle.std.specs.Str.{str_to_ascii_lowercase}
use Rattle.spool_types.specs.declared.effect.Effect.{Effect}
use Rattle.spool_types.specs.declared.effect.Effect.TheVariants.{SetReasons, AddReasons, DropReasons}
use Rattle.spool_types.specs.Limits.{greatest_number, greatest_moment, longest_send, most_queues, longest_document, greatest_attempts}
use Rattle.spool_types.specs.Values.{is_queue_name, is_media_type, is_title, is_user_name, is_uri, is_reason}
use Rattle.spool_types.specs.Effects.{names_enough, effects_size, most_effect_bytes}
use Rattle.decision_examples.specs.HexBytes.{tabbed, times}

abbrev pub LimitsRows : Type 0
LimitsRows = greatest_number ∷ greatest_moment ∷ longest_send ∷ longest_document ∷ most_queues ∷ greatest_attempts ∷ []
    ≡ 2147483647 ∷ 4000000000000 ∷ 65536 ∷ 16777216 ∷ 64 ∷ 4294967295 ∷ []

-- A moment this number of seconds later.
abbrev pub later : ℕ → ℕ → ℕ
later moment seconds = min (moment + seconds) greatest_moment

abbrev pub LaterRows : Type 0
LaterRows = later greatest_moment 1 ∷ later 0 30 ∷ later 0 18446744073709551615 ∷ [] ≡ 4000000000000 ∷ 30 ∷ 4000000000000 ∷ []

-- Letters, digits, hyphens and underscores, 1 to 127 of them.
abbrev pub QueueNameRows : Type 0
QueueNameRows = map is_queue_name (codes "lab" ∷ codes "Lab-2_b" ∷ [] ∷ codes "a b" ∷ codes "a.b" ∷ times 127 113 ∷ times 128 113 ∷ [])
    ≡ true ∷ true ∷ false ∷ false ∷ false ∷ true ∷ false ∷ []

-- The media type of a text, if it is one. Capitals are folded to small letters.
abbrev pub media : List ℕ → Option (List ℕ)
media text = cond (is_media_type (str_to_ascii_lowercase text)) (Some (str_to_ascii_lowercase text)) None

abbrev pub MediaRows : Type 0
MediaRows = map media (codes "application/octet-stream" ∷ codes "Image/SVG+xml" ∷ codes "a/b" ∷ codes "a" ∷ codes "/b" ∷ codes "a/" ∷ codes "a/b/c" ∷ codes "a b/c" ∷ [])
    ≡ Some (codes "application/octet-stream") ∷ Some (codes "image/svg+xml") ∷ Some (codes "a/b") ∷ None ∷ None ∷ None ∷ None ∷ None ∷ []

-- A media type has at most 255 bytes.
abbrev pub LongMediaRows : Type 0
LongMediaRows = map (λ count. is_media_type (codes "a/" ++ times count 98)) (253 ∷ 254 ∷ 298 ∷ []) ≡ true ∷ false ∷ false ∷ []

-- No control character, in UTF-8.
abbrev pub TitleRows : Type 0
TitleRows = map is_title ([] ∷ (codes "First " ++ 195 ∷ 169 ∷ []) ∷ tabbed (codes "a~b") ∷ (127 ∷ []) ∷ []) ≡ true ∷ true ∷ false ∷ false ∷ []

-- A user without a name, a blank in a URI, and the word for no reason.
abbrev pub RefusedTexts : Type 0
RefusedTexts = is_user_name [] ∷ is_uri (codes "a b") ∷ is_reason (codes "none") ∷ [] ≡ false ∷ false ∷ false ∷ []

-- An effect that adds one reason of this length: 5 bytes of encoding and those of the reason.
abbrev pub added : ℕ → Effect
added count = AddReasons (times count 114 ∷ [])

-- 127 effects of 128 bytes, and one with this number of bytes more.
abbrev pub effects_up_to : ℕ → List Effect
effects_up_to count = times 127 (added 123) ++ added count ∷ []

-- Effects with the greatest number of bytes, with one more, and with few.
abbrev pub EffectSizeRows : Type 0
EffectSizeRows = most_effect_bytes ∷ map effects_size (effects_up_to 123 ∷ effects_up_to 124 ∷ [] ∷ (SetReasons [] ∷ []) ∷ [])
    ≡ 16384 ∷ 16384 ∷ 16385 ∷ 0 ∷ 3 ∷ []

-- An effect that drops or adds reasons names at least one.
abbrev pub EnoughRows : Type 0
EnoughRows = map (list_all names_enough) ((SetReasons [] ∷ []) ∷ (SetReasons [] ∷ DropReasons [] ∷ []) ∷ (AddReasons [] ∷ []) ∷ []) ≡ true ∷ false ∷ false ∷ []
