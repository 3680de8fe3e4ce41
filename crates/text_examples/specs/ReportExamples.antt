-- Examples of a child's standard error, and of its effects.
use Prim.Native.String.{String}
use Rattle.std.specs.Prelude.{◌≡◌, ℕ, List, [], ◌∷◌, ◌++◌, length, map, codes, replicate}
use Rattle.std.specs.List.{repeat}
use Rattle.spool_types.specs.declared.effect.Effect.{Effect}
use Rattle.spool_types.specs.declared.effect.Effect.TheVariants.{Pages, TotalPages, SetReasons, AddReasons, DropReasons, Attribute, Message}
use Rattle.spool_types.specs.declared.effect.Level.TheVariants.{Emergency, Alert, Critical, Error, Warning, Notice, Info}
use Rattle.stderr_lines.specs.Reports.{Reported, report_of}
use Rattle.text_examples.specs.Written.{text}

-- A text, and the effects that are reported of it, all of them.
pub record Line : Type 0 where
  pub said : List ℕ
  pub effects : List Effect

abbrev pub line : String → List Effect → Line
line said effects = record { said = text said; effects = effects }

abbrev pub AreReported : List Line → Type 0
AreReported rows = map (λ (l : Line). report_of l.said) rows ≡ map (λ (l : Line). record { effects = l.effects; dropped = 0 }) rows

abbrev pub AreSilent : List String → Type 0
AreSilent rows = AreReported (map (λ (said : String). line said []) rows)

-- The lines of a text in their order.
abbrev pub TextRows : Type 0
TextRows = AreReported (
    line "STATE: +media-empty,toner-low|PAGE: 1 2|PAGE: total 9|hello" (AddReasons (codes "media-empty" ∷ codes "toner-low" ∷ []) ∷ Pages 1 2 ∷ TotalPages 9 ∷ [])
    ∷ [])

-- Each level, with the text after its blanks.
abbrev pub LevelRows : Type 0
LevelRows = AreReported (
    line "ALERT: a" (Message Alert (codes "a") ∷ [])
    ∷ line "CRIT:a b " (Message Critical (codes "a b ") ∷ [])
    ∷ line "EMERG: ~ a~b" (Message Emergency (codes "a?b") ∷ [])
    ∷ record { said = text "ERROR: " ++ 128 ∷ 31 ∷ 126 ∷ []; effects = Message Error (63 ∷ 63 ∷ 126 ∷ []) ∷ [] }
    ∷ line "INFO:" (Message Info [] ∷ [])
    ∷ line "NOTICE: a$|" (Message Notice (codes "a") ∷ [])
    ∷ line "WARNING: a:b" (Message Warning (codes "a:b") ∷ [])
    ∷ [])

-- Lines without effect.
abbrev pub SilentRows : Type 0
SilentRows = AreSilent ("DEBUG: a" ∷ "DEBUG2: a" ∷ "PPD: a=b" ∷ "Info: a" ∷ " INFO: a" ∷ "a INFO: b" ∷ "INFO a" ∷ "||" ∷ "" ∷ [])

-- Pages are two numbers or a total.
abbrev pub PageRows : Type 0
PageRows = AreReported (
    line "PAGE: 4294967295 0" (Pages 4294967295 0 ∷ [])
    ∷ line "PAGE:  00000000000000000001   2 " (Pages 1 2 ∷ [])
    ∷ line "PAGE: total 00009" (TotalPages 9 ∷ [])
    ∷ [])

abbrev pub NoPageRows : Type 0
NoPageRows = AreSilent ("PAGE: 4294967296 0" ∷ "PAGE: 1 42949672950" ∷ "PAGE: total" ∷ "PAGE: 1" ∷ "PAGE: 1 2 3" ∷ "PAGE: 1~2" ∷ "PAGE: +1 2"
    ∷ "PAGE: Total 9" ∷ "PAGE:" ∷ [])

-- States name reasons.
abbrev pub StateRows : Type 0
StateRows = AreReported (
    line "STATE: none" (SetReasons [] ∷ [])
    ∷ line "STATE:" (SetReasons [] ∷ [])
    ∷ line "STATE: a,,b  c" (SetReasons (codes "a" ∷ codes "b" ∷ codes "c" ∷ []) ∷ [])
    ∷ line "STATE: - toner-low" (DropReasons (codes "toner-low" ∷ []) ∷ [])
    ∷ line "STATE: +a,none,b/c,d_e.f" (AddReasons (codes "a" ∷ codes "d_e.f" ∷ []) ∷ [])
    ∷ [])

abbrev pub NoStateRows : Type 0
NoStateRows = AreSilent ("STATE: +none" ∷ "STATE: -" ∷ [])

abbrev pub attribute : String → String → Effect
attribute name value = Attribute (record { name = codes name; value = codes value })

-- Attributes are pairs. Their values may be quoted.
abbrev pub AttributeRows : Type 0
AttributeRows = AreReported (
    line "ATTR: a=1 b-2='x \"y' c=\"d e\"f" (attribute "a" "1" ∷ attribute "b-2" "x \"y" ∷ attribute "c" "d ef" ∷ [])
    ∷ line "ATTR: \"a=1 b\" a.b=2 c d=1,e=2 f=\\ \\" (attribute "d" "1,e=2" ∷ attribute "f" " " ∷ [])
    ∷ line "ATTR: a='b\\' c" (attribute "a" "b' c" ∷ [])
    ∷ line "ATTR: a= =b" (attribute "a" "" ∷ [])
    ∷ [])

-- ## Long texts

-- This number of bytes `x`.
abbrev pub xs : ℕ → List ℕ
xs count = replicate count 120

-- 1,023 bytes of a line are read, and a carriage return at their end is dropped.
abbrev pub LongLineRows : Type 0
LongLineRows = AreReported (
    record { said = text "INFO: " ++ xs 1016 ++ text "$|"; effects = Message Info (xs 1016) ∷ [] }
    ∷ record { said = text "INFO: " ++ xs 1017 ++ text "$|"; effects = Message Info (xs 1017) ∷ [] }
    ∷ record { said = text "INFO: " ++ xs 1017 ++ text "yz"; effects = Message Info (xs 1017) ∷ [] }
    ∷ record { said = text "INFO: " ++ xs 1016 ++ text "$$|"; effects = Message Info (xs 1016) ∷ [] }
    ∷ record { said = text "INFO: " ++ xs 1015 ++ text "$$|"; effects = Message Info (xs 1015 ++ text "?") ∷ [] }
    ∷ [])

-- A reason and the name of an attribute have at most 127 bytes.
abbrev pub LongWordRows : Type 0
LongWordRows = AreReported (
    record { said = text "STATE: +" ++ xs 127; effects = AddReasons (xs 127 ∷ []) ∷ [] }
    ∷ record { said = text "STATE: +" ++ xs 128; effects = [] }
    ∷ record { said = text "ATTR: " ++ xs 127 ++ text "=1"; effects = Attribute (record { name = xs 127; value = codes "1" }) ∷ [] }
    ∷ record { said = text "ATTR: " ++ xs 128 ++ text "=1"; effects = [] }
    ∷ [])

-- This number of messages of 1,000 bytes, each 1,004 bytes encoded, and then a text.
abbrev pub full : ℕ → List ℕ → List ℕ
full count end = repeat count (text "INFO: " ++ xs 1000 ++ text "|") ++ end

-- How many effects of 16,384 bytes are kept and dropped: after sixteen of 1,004 bytes 320 bytes are left.
abbrev pub counts : Reported → ℕ × ℕ
counts told = (length told.effects, told.dropped)

abbrev pub FullRows : Type 0
FullRows = counts (report_of (full 20 (text "INFO: a"))) ≡ (16, 5)

abbrev pub LastRows : Type 0
LastRows = counts (report_of (full 16 (text "INFO: " ++ xs 316))) ∷ counts (report_of (full 16 (text "INFO: " ++ xs 317))) ∷ []
    ≡ (17, 0) ∷ (16, 1) ∷ []
