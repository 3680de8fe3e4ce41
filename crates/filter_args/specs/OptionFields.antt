-- The meanings of the values in memory.
use Rattle.std.specs.Prelude.{◌≡◌, ℕ, List, map, Result, Ok, Err, Vec, String, ⊤}
use Rattle.std.specs.String.{string_bytes}
use Rattle.std.specs.Cow.{cow_str_bytes}
use Rattle.std.specs.declared.borrow.CowStr.{CowStr}
use denote.Ref.{Bor}
use Rattle.filter_args.specs.declared.fault.OptionFault.{OptionFault}
use Rattle.filter_args.specs.declared.fault.OptionFault.TheVariants.{BadName, Unclosed, Collection, Memory}
use Rattle.filter_args.specs.Pairs.{Pair}

-- A name and a value, either of which may be borrowed.
abbrev pub pair_of : {Z : Type 0} → Bor (List ℕ) × CowStr Z → Pair
pair_of p = (p.0.now, cow_str_bytes p.1)

abbrev pub pairs_of : {Z : Type 0} → List (Bor (List ℕ) × CowStr Z) → List Pair
pairs_of ps = map pair_of ps

-- The error is the defined one. Nothing is stated if memory ran out.
abbrev pub IsFault : {A : Type 0} → OptionFault → Result A OptionFault → Type 0
IsFault BadName all = all ≡ Err BadName
IsFault Unclosed all = all ≡ Err Unclosed
IsFault Collection all = all ≡ Err Collection
IsFault Memory all = ⊤

-- The result of an attempt is the defined one.
abbrev pub Gives : {T A : Type 0} → Result T OptionFault → (T → A) → Result A OptionFault → Type 0
Gives (Ok v) seen all = all ≡ Ok (seen v)
Gives (Err fault) seen all = IsFault fault all

-- The texts of a list.
abbrev pub texts : {Y Z : Type 0} → Vec (String Y) Z → List (List ℕ)
texts v = map string_bytes v.items
