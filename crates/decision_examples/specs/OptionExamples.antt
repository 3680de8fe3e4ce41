-- Examples of options: the meaning of their text, and how they are printed.
use Rattle.std.specs.Prelude.{◌≡◌, ℕ, List, [], ◌∷◌, ◌++◌, map, codes, None, Some, Result, Ok, Err}
use Rattle.filter_args.specs.declared.fault.OptionFault.{OptionFault}
use Rattle.filter_args.specs.declared.fault.OptionFault.TheVariants.{BadName, Unclosed, Collection}
use Rattle.filter_args.specs.Pairs.{Pair, value_of}
use Rattle.filter_args.specs.OptionTexts.{reading}
use Rattle.filter_args.specs.Printing.{printed}
use Rattle.decision_examples.specs.HexBytes.{tabbed}

abbrev pub shown : Result (List Pair) OptionFault → Result (List ℕ) OptionFault
shown (Ok options) = Ok (printed options)
shown (Err fault) = Err fault

-- The printed form of the options of a text, or its first error.
abbrev pub printed_again : List ℕ → Result (List ℕ) OptionFault
printed_again text = shown (reading (tabbed text))

-- Each row: a text, and how its options are printed.
abbrev pub ArePrinted : List (List ℕ × List ℕ) → Type 0
ArePrinted rows = map (λ (row : List ℕ × List ℕ). printed_again row.0) rows ≡ map (λ (row : List ℕ × List ℕ). Ok row.1) rows

-- The letter e with an acute accent, in UTF-8.
abbrev pub accented : List ℕ
accented = 195 ∷ 169 ∷ []

abbrev pub OptionRows : Type 0
OptionRows = ArePrinted (
    (codes "media=A4 nocollate duplex note='a b'", codes "media=A4 collate=false duplex=true note=a\\ b")
    ∷ ([], [])
    ∷ (codes "~ a ~", codes "a=true")
    ∷ (codes "a=1 b=2~a=3", codes "a=3 b=2")
    ∷ (codes "no nono noX=1 nox", codes "no=false noX=1 x=false")
    ∷ (codes "No NOx", codes "No=true NOx=true")
    ∷ (codes "a= b=''", codes "a= b=")
    ∷ (codes "a='\"\\'' b=\"it's\"", codes "a=\\\"\\' b=it\\'s")
    ∷ (codes "a=x'y z'\"1 2\"w", codes "a=xy\\ z1\\ 2w")
    ∷ (codes "a=\\  b=\\" ++ accented ++ codes "=", codes "a=\\  b=" ++ accented ++ codes "=")
    ∷ (codes "c='{x=1}' d=\\{ e=x{", codes "c=\\{x=1} d=\\{ e=x{")
    ∷ [])

-- Each row: a text, and its first error from the left.
abbrev pub AreFaults : List (List ℕ × OptionFault) → Type 0
AreFaults rows = map (λ (row : List ℕ × OptionFault). reading row.0) rows ≡ map (λ (row : List ℕ × OptionFault). Err row.1) rows

abbrev pub OptionFaultRows : Type 0
OptionFaultRows = AreFaults (
    (codes "c={x=1}", Collection)
    ∷ (codes "=x", BadName)
    ∷ (codes "a:b", BadName)
    ∷ (accented, BadName)
    ∷ (codes "'a'=b", BadName)
    ∷ (codes "a='b c", Unclosed)
    ∷ (codes "a=\"b'", Unclosed)
    ∷ (codes "a=b\\", Unclosed)
    ∷ (codes "a={ b:c", Collection)
    ∷ (codes "b:c a={", BadName)
    ∷ (codes "a:'b", BadName)
    ∷ (codes "a={'b", Collection)
    ∷ (codes "a='b c={", Unclosed)
    ∷ [])

abbrev pub options : List Pair
options = (codes "media", codes "A 3") ∷ (codes "sides", codes "one") ∷ []

-- An option has its last value.
abbrev pub LastValueRows : Type 0
LastValueRows = (reading (codes "media=A4 sides=one media='A 3'") ≡ Ok options)
    × (map (λ name. value_of name options) (codes "media" ∷ codes "sides" ∷ codes "side" ∷ []) ≡ Some (codes "A 3") ∷ Some (codes "one") ∷ None ∷ [])
