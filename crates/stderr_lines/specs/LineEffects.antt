-- The effects of each line of a text, by its prefix (filter(7)).
use Rattle.std.specs.Prelude.{ℕ, Bool, cond, nat_eq, ◌==◌, List, [], ◌∷◌, take, map, codes, Option, None, Some}
use Rattle.std.specs.List.{slice_split, flat_map}
use Rattle.std.specs.Option.{option_to_list}
use Rattle.std.specs.Cmp.Lexicographic.{pointwise}
use Rattle.line_words.specs.Blanks.{after_blanks}
use Rattle.spool_types.specs.Values.{is_printable}
use Rattle.spool_types.specs.declared.effect.Level.TheVariants.{Emergency, Alert, Critical, Error, Warning, Notice, Info}
use Rattle.spool_types.specs.declared.effect.Effect.{Effect}
use Rattle.spool_types.specs.declared.effect.Effect.TheVariants as effects
use Rattle.stderr_lines.specs.declared.prefix.Prefix.{Prefix}
use Rattle.stderr_lines.specs.declared.prefix.Prefix.TheVariants.{Silent, Page, State, Attr, Level}
use Rattle.stderr_lines.specs.Cuts.{cut_at}
use Rattle.stderr_lines.specs.PageLines.{page_effect}
use Rattle.stderr_lines.specs.ReasonLines.{state_effect}
use Rattle.stderr_lines.specs.AttributeLines.{attribute_effects}

abbrev pub is_lf : ℕ → Bool
is_lf b = b == 10

-- A line ends with its line feed, and the last line needs none. After a last line feed comes an empty line, which has no effect.
abbrev pub lines_of : List ℕ → List (List ℕ)
lines_of text = slice_split is_lf text

-- The line without a carriage return at its end.
abbrev pub without_cr : List ℕ → List ℕ
without_cr [] = []
without_cr (b ∷ []) = cond (b == 13) [] (b ∷ [])
without_cr (b ∷ c ∷ bs) = b ∷ without_cr (c ∷ bs)

-- The part of a line that is read.
abbrev pub kept_line : List ℕ → List ℕ
kept_line line = without_cr (take 1023 line)

abbrev pub is_name : List ℕ → List ℕ → Bool
is_name word name = pointwise nat_eq word name

-- The prefix whose name precedes the first colon. DEBUG, DEBUG2, PPD and any other word have no effect.
abbrev pub prefix_of : List ℕ → Prefix
prefix_of name =
    cond (is_name name (codes "PAGE")) Page
    (cond (is_name name (codes "STATE")) State
    (cond (is_name name (codes "ATTR")) Attr
    (cond (is_name name (codes "EMERG")) (Level Emergency)
    (cond (is_name name (codes "ALERT")) (Level Alert)
    (cond (is_name name (codes "CRIT")) (Level Critical)
    (cond (is_name name (codes "ERROR")) (Level Error)
    (cond (is_name name (codes "WARNING")) (Level Warning)
    (cond (is_name name (codes "NOTICE")) (Level Notice)
    (cond (is_name name (codes "INFO")) (Level Info)
    Silent)))))))))

-- A question mark instead of each byte that is not printable ASCII, such as a tab.
abbrev pub shown_byte : ℕ → ℕ
shown_byte b = cond (is_printable b) b 63

-- The text of a line: the bytes after the prefix and its blanks.
abbrev pub shown_text : List ℕ → List ℕ
shown_text rest = map shown_byte (after_blanks rest)

-- The effects of a text after a prefix.
abbrev pub effects_by : Prefix → List ℕ → List Effect
effects_by Silent text = []
effects_by Page text = option_to_list (page_effect text)
effects_by State text = option_to_list (state_effect text)
effects_by Attr text = attribute_effects text
effects_by (Level level) text = effects.Message level text ∷ []

abbrev pub effects_behind : Option (List ℕ × List ℕ) → List Effect
effects_behind None = []
effects_behind (Some (name, rest)) = effects_by (prefix_of name) (shown_text rest)

-- The effects of a line that has been cut to its length.
abbrev pub line_effects : List ℕ → List Effect
line_effects line = effects_behind (cut_at 58 line)

-- The effects of the lines of a text, in order.
abbrev pub effects_of : List ℕ → List Effect
effects_of text = flat_map (λ line. line_effects (kept_line line)) (lines_of text)
