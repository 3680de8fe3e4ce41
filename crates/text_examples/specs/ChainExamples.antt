-- Examples of mime.convs(5): the meaning of its lines, and the cheapest chains.
use Prim.Native.String.{String}
use Rattle.std.specs.Prelude.{◌≡◌, ℕ, zero, suc, ◌+◌, List, [], ◌∷◌, ◌++◌, codes, Option, None, Some}
use Rattle.std.specs.Fmt.{decimal}
use Rattle.std.specs.Option.{option_map}
use Rattle.spool_types.specs.declared.warning.WarningKind.TheVariants.{BadType, BadNumber, BadLine}
use Rattle.mime_costs.specs.Walks.{Worth, worth_of}
use Rattle.mime_costs.specs.LeastWalk.{least_walk, filters_between}
use Rattle.mime_costs.specs.ConversionFiles.{conversions_of, warnings_of}
use Rattle.mime_costs.specs.declared.conversion.Conversion.{Conversion}
use Rattle.text_examples.specs.Written.{text}

-- A conversion: its line number, source, destination, cost and filter.
abbrev pub conversion : ℕ → String → String → ℕ → String → Conversion
conversion line source destination cost filter =
    record { line = line; source = text source; destination = text destination; cost = cost; filter = text filter }

abbrev pub NamedRows : Type 0
NamedRows = conversions_of (text "# none|a/a b/b 1 -|b/b c/c 2 to_c|") ≡ conversion 2 "a/a" "b/b" 1 "-" ∷ conversion 3 "b/b" "c/c" 2 "to_c" ∷ []

-- Capitals are folded, lines are joined, and numbers have three bases.
abbrev pub ReadRows : Type 0
ReadRows = conversions_of (text "A/A \\| B/B 0x0A f") ≡ conversion 1 "a/a" "b/b" 10 "f" ∷ []

-- Invalid lines, and a valid one.
abbrev pub faulty : String
faulty = "a/a b/b 10001 f|a/a b/b 10|a/a b/* 10 f|A/A B/B 0x0A f|"

abbrev pub FaultRows : Type 0
FaultRows = warnings_of (text faulty) ≡ record { line = 1; kind = BadNumber } ∷ record { line = 2; kind = BadLine } ∷ record { line = 3; kind = BadType } ∷ []

abbrev pub LeftRows : Type 0
LeftRows = conversions_of (text faulty) ≡ conversion 4 "a/a" "b/b" 10 "f" ∷ []

-- The least walk in a file from one type to another.
abbrev pub least : List ℕ → String → String → Option Worth
least file from to = option_map worth_of (least_walk (conversions_of file) (text from) (text to))

-- Its cost and its lines.
abbrev pub worth : ℕ → List ℕ → Option Worth
worth cost lines = Some (record { cost = cost; lines = lines })

abbrev pub ties : List ℕ
ties = text "a/a b/b 10 f1|b/b c/c 10 f2|a/a c/c 20 f3|a/a c/c 20 f4|a/a d/d 5 -|d/d c/c 16 f5|"

-- The fewest lines, then the first ones, win; without a walk there is no chain; a type is reached from itself.
abbrev pub TieRows : Type 0
TieRows = least ties "a/a" "c/c" ∷ least ties "a/a" "e/e" ∷ least ties "c/c" "c/c" ∷ [] ≡ worth 20 (3 ∷ []) ∷ None ∷ worth 0 [] ∷ []

abbrev pub wild : List ℕ
wild = text "*/* x/y 50 f|text/* x/y 20 g|text/plain x/z 10 h|x/z x/y 10 i|"

-- A super source accepts its types.
abbrev pub WildRows : Type 0
WildRows = least wild "text/plain" "x/y" ∷ least wild "image/png" "x/y" ∷ [] ≡ worth 20 (2 ∷ []) ∷ worth 50 (1 ∷ []) ∷ []

-- This number of lines, each from a type to the next.
abbrev pub steps : ℕ → ℕ → List ℕ
steps n zero = []
steps n (suc count) = text "t/" ++ decimal n ++ text " t/" ++ decimal (n + 1) ++ text " 1 f|" ++ steps (n + 1) count

-- Consecutive numbers from n on.
abbrev pub numbers : ℕ → ℕ → List ℕ
numbers n zero = []
numbers n (suc count) = n ∷ numbers (n + 1) count

-- A walk has at most 15 lines.
abbrev pub LongRows : Type 0
LongRows = least (steps 0 16) "t/0" "t/15" ∷ least (steps 0 16) "t/0" "t/16" ∷ [] ≡ worth 15 (numbers 1 15) ∷ None ∷ []

-- The filters of the least walk.
abbrev pub filters : List ℕ → String → String → Option (List (List ℕ))
filters file from to = filters_between (conversions_of file) (text from) (text to)

-- A hyphen is no filter.
abbrev pub FilterRows : Type 0
FilterRows = filters ties "a/a" "c/c" ∷ filters ties "a/a" "d/d" ∷ filters ties "c/c" "c/c" ∷ filters ties "a/a" "e/e" ∷ []
    ≡ Some (codes "f3" ∷ []) ∷ Some [] ∷ Some [] ∷ None ∷ []

-- They are in the order of the walk.
abbrev pub OrderRows : Type 0
OrderRows = filters (text "c/c d/d 1 last|b/b c/c 1 -|a/a b/b 1 first|") "a/a" "d/d" ≡ Some (codes "first" ∷ codes "last" ∷ [])
