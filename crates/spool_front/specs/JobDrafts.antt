-- The fields of the job that a document becomes.
use Rattle.std.specs.Prelude.{◌≡◌, ◌≢◌, ℕ, Bool, ◌<◌, ◌⊎◌, cond, List, [], ◌∷◌, ◌++◌, length, slice_index, map, chars, codes, encode_utf8_all, Option, None, Some}
use Rattle.std.specs.List.{flat_map}
use Rattle.std.specs.Option.{option_map}
use Rattle.front_words.specs.declared.asked.Hold.{Hold}
use Rattle.front_words.specs.declared.asked.Hold.TheVariants.{No, Indefinite, Until as Waits}
use Rattle.front_words.specs.declared.asked.Submission.{Submission}
use Rattle.spool_front.specs.SentCommands.{is_control}
use Rattle.spool_front.specs.ServiceMoments.{second_of}
use Rattle.spool_front.specs.declared.moments.Clocks.{Clocks}
use Rattle.spool_front.specs.declared.commands.Until.{Until}
use Rattle.spool_front.specs.declared.commands.Until.TheVariants.{Released, Reached}

-- The end of a hold, by these clocks.
abbrev pub until_of : Clocks → Hold → Option Until
until_of c No = None
until_of c Indefinite = Some Released
until_of c (Waits moment) = Some (Reached (second_of c moment))

-- A text, followed by a blank.
abbrev pub option_text : List ℕ → List ℕ
option_text text = text ++ codes " "

-- The option for the page ranges.
abbrev pub page_ranges_option : Option (List ℕ) → List ℕ
page_ranges_option None = []
page_ranges_option (Some ranges) = codes "page-ranges=" ++ option_text ranges

abbrev pub raw_option : Bool → List ℕ
raw_option raw = cond raw (codes "raw ") []

-- The requested options, each followed by a blank, `raw` if it is set, the page ranges, and the token.
abbrev pub options_of : Submission → List ℕ → List ℕ
options_of asked token =
    flat_map (λ option. option_text option.now) asked.options.items ++ raw_option asked.raw ++ page_ranges_option (option_map (λ ranges. ranges.now) asked.page_ranges) ++ token

-- A question mark in place of a control character.
abbrev pub plain_char : ℕ → ℕ
plain_char c = cond (is_control c) 63 c

abbrev pub plain_text : List ℕ → List ℕ
plain_text text = encode_utf8_all (map plain_char (chars text))

abbrev pub HasNoSlash : List ℕ → Type 0
HasNoSlash name = (i : ℕ) → i < length name → slice_index name i ≢ 47

-- The part after the last slash of a path, or the whole path if it has none.
abbrev pub IsLastPart : List ℕ → List ℕ → Type 0
IsLastPart path name = HasNoSlash name × ((path ≡ name) ⊎ ((front : List ℕ) × (path ≡ front ++ 47 ∷ name)))
