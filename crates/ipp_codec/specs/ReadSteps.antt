-- Steps of reading, up to the first fault.
use Rattle.std.specs.Prelude.{◌≡◌, ℕ, List, Result, Ok, Err, ◌++◌}
use Rattle.ipp_codec.specs.declared.fault.DecodeFault.{DecodeFault}
use Rattle.ipp_codec.specs.declared.fault.DecodeFault.TheVariants.{NeedMore, TooLarge, Delimiter, Name, Length, Text, Boolean, Collection, Memory}

-- A value and the octets after it, or the first fault.
abbrev pub Field : Type 0 → Type 0
Field A = Result (A × List ℕ) DecodeFault

-- Steps in order, up to the first fault.
infixl 10 ◌>>=◌
abbrev pub ◌>>=◌ : {A B : Type 0} → Result A DecodeFault → (A → Result B DecodeFault) → Result B DecodeFault
(Ok x) >>= f = f x
(Err e) >>= f = Err e

-- The result of a function, seen by `view`, is that of `reading`, unless memory ran out.
abbrev pub Fails : {Y : Type 0} → DecodeFault → Result Y DecodeFault → Type 0
Fails NeedMore reading = reading ≡ Err NeedMore
Fails TooLarge reading = reading ≡ Err TooLarge
Fails Delimiter reading = reading ≡ Err Delimiter
Fails Name reading = reading ≡ Err Name
Fails Length reading = reading ≡ Err Length
Fails Text reading = reading ≡ Err Text
Fails Boolean reading = reading ≡ Err Boolean
Fails Collection reading = reading ≡ Err Collection
Fails Memory reading = Unit {0}

abbrev pub Gives : {X Y : Type 0} → (X → Y) → Result X DecodeFault → Result Y DecodeFault → Type 0
Gives view (Ok x) reading = reading ≡ Ok (view x)
Gives view (Err e) reading = Fails e reading

-- Items that were read before, followed by those that are read.
abbrev pub before : {A : Type 0} → List A → Field (List A) → Field (List A)
before front read = read >>= λ x. Ok (front ++ x.0, x.1)

-- The fault is that of `reading` too, unless octets or memory were lacking.
abbrev pub Lasts : {Y : Type 0} → DecodeFault → Result Y DecodeFault → Type 0
Lasts NeedMore reading = Unit {0}
Lasts TooLarge reading = reading ≡ Err TooLarge
Lasts Delimiter reading = reading ≡ Err Delimiter
Lasts Name reading = reading ≡ Err Name
Lasts Length reading = reading ≡ Err Length
Lasts Text reading = reading ≡ Err Text
Lasts Boolean reading = reading ≡ Err Boolean
Lasts Collection reading = reading ≡ Err Collection
Lasts Memory reading = Unit {0}
