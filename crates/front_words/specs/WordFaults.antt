-- Why arguments are refused.
use Rattle.std.specs.Prelude.{◌≡◌, ⊤}
use Rattle.clap.specs.Words.{kind_of}
use Rattle.clap.specs.declared.error.kind.ErrorKind.TheVariants.{ValueValidation}
use Rattle.front_words.specs.declared.fault.WordsFault.{WordsFault}
use Rattle.front_words.specs.declared.fault.WordsFault.TheVariants.{Refused, Memory}
use Rattle.front_words.specs.declared.fault.Wrong.{Wrong}
use Rattle.front_words.specs.declared.fault.Wrong.TheVariants as wrong

-- The arguments are refused only if p is false. Memory may run out in any case.
abbrev pub RefusesOnly : Type 0 → WordsFault → Type 0
RefusesOnly p (Refused error) = p → ⊥
RefusesOnly p Memory = ⊤

-- The values are refused only if p is false. Memory may run out in any case.
abbrev pub BlamesOnly : Type 0 → Wrong → Type 0
BlamesOnly p (wrong.Value text) = p → ⊥
BlamesOnly p wrong.Memory = ⊤

-- An invalid value is reported with status 2, unless memory runs out.
abbrev pub IsMistake : Wrong → WordsFault → Type 0
IsMistake (wrong.Value text) (Refused error) = kind_of error ≡ ValueValidation
IsMistake (wrong.Value text) Memory = ⊤
IsMistake wrong.Memory (Refused error) = ⊥
IsMistake wrong.Memory Memory = ⊤
